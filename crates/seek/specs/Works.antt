-- The two work lists as the code holds them.
use Rattle.std.specs.Prelude.{◌≡◌, length}
use Rattle.seek.specs.declared.work.Work.{Work}

-- the lists are those that they were, as long as they were; what they hold may have changed
pub record SameLists (was is : Work) : Type 0 where
  pub keys : is.keys.ghost_name ≡ was.keys.ghost_name
  pub corners : is.corners.ghost_name ≡ was.corners.ghost_name
  pub keys_long : length is.keys.now ≡ length was.keys.now
  pub corners_long : length is.corners.now ≡ length was.corners.now

-- The lists that are lent for asking a board, before and after.
use Rattle.std.specs.Prelude.{◌≡◌, length, replicate}
use Rattle.lent.specs.References.{Stays}
use Rattle.lines.specs.declared.lists.Lists.{Lists}

-- they are the lists that were lent
pub record Same (was is : Lists) : Type 0 where
  pub rows : Stays was.rows is.rows
  pub columns : Stays was.columns is.columns
  pub keys : Stays was.keys is.keys
  pub corners : Stays was.corners is.corners
  pub trail : Stays was.trail is.trail

-- and as long as they were
pub record Kept (was is : Lists) : Type 0 where
  pub same : Same was is
  pub rows : length is.rows.now ≡ length was.rows.now
  pub columns : length is.columns.now ≡ length was.columns.now
  pub keys : length is.keys.now ≡ length was.keys.now
  pub corners : length is.corners.now ≡ length was.corners.now
  pub trail : length is.trail.now ≡ length was.trail.now

-- they are left with zeros
pub record Cleared (was is : Lists) : Type 0 where
  pub same : Same was is
  pub rows : is.rows.now ≡ replicate (length was.rows.now) 0
  pub columns : is.columns.now ≡ replicate (length was.columns.now) 0
  pub keys : is.keys.now ≡ replicate (length was.keys.now) 0
  pub corners : is.corners.now ≡ replicate (length was.corners.now) 0
  pub trail : is.trail.now ≡ replicate (length was.trail.now) 0

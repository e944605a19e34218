-- The two work lists stay the same two lists.
use mathlib.Core.Path.{refl, ◌∙◌}
use Rattle.seek.specs.declared.work.Work.{Work}
use Rattle.seek.specs.Works.{SameLists}

-- before the first step
pub same_none : {was : Work} → SameLists was was
same_none = record { keys = refl; corners = refl; keys_long = refl; corners_long = refl }

-- and after some more
pub same_more : {was is will : Work} → SameLists was is → SameLists is will → SameLists was will
same_more s t = record { keys = t.keys ∙ s.keys; corners = t.corners ∙ s.corners; keys_long = t.keys_long ∙ s.keys_long; corners_long = t.corners_long ∙ s.corners_long }

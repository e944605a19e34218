-- The lists that are lent for asking stay the lists that they were, and as long.
use mathlib.Core.Path.{refl}
use Rattle.lines.specs.declared.lists.Lists.{Lists}
use Rattle.lines.specs.Lists.{Kept}

-- where nothing is asked
pub kept : {lists : Lists} → Kept lists lists
kept = record {
  same = record { rows = (refl, refl); columns = (refl, refl); keys = (refl, refl); corners = (refl, refl); trail = (refl, refl) };
  rows = refl;
  columns = refl;
  keys = refl;
  corners = refl;
  trail = refl;
}

-- The lists stay as long as the program's, and the page as long as it was.
use Prim.Native.Nat.{◌-◌}
use mathlib.Core.Path.{◌≡◌}
use lib.ListN.{length}
use Rattle.lines.specs.Lists.{Kept}
use Rattle.report.proofs.print_from.Given as goal

abbrev pub invariant-loop-at : goal.invariant-loop-at
invariant-loop-at l = Kept l.initial.lists l.lists × (length l.out ≡ length l.initial.out)

abbrev pub decreases-loop-at : goal.decreases-loop-at
decreases-loop-at l = length l.sheet - l.at

-- The loop keeps that the first i places are the codes of the first i cells.
use Prim.Native.Nat.{◌-◌}
use lib.ListN.{length}
use Rattle.build.proofs.Coding.{Filled}
use Rattle.build.proofs.cells.fill.Given as goal

abbrev pub invariant-loop-i : goal.invariant-loop-i
invariant-loop-i l = Filled l.height l.rows l.columns l.initial.work l.i l.work

abbrev pub decreases-loop-i : goal.decreases-loop-i
decreases-loop-i l = length l.rows - l.i

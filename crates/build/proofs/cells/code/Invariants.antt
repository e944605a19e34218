-- The digits found so far are the code of the box of side 2 ^ left that the cell is in.
use Rattle.build.proofs.Coding.{Coding}
use Rattle.build.proofs.cells.code.Given as goal

abbrev pub invariant-loop-left : goal.invariant-loop-left
invariant-loop-left l = Coding l.height l.row l.column l.left l.found

abbrev pub decreases-loop-left : goal.decreases-loop-left
decreases-loop-left l = l.left

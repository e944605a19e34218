-- The places before the one that is written are zero, and the others as they were.
use Rattle.std.proofs.Common.{◌≡◌, ◌++◌, replicate, drop}
use Rattle.lent.proofs.clear.Given as goal

abbrev pub invariant-loop-place : goal.invariant-loop-place
invariant-loop-place g l = l.place-items ≡ replicate l.place-index g.T.Zero.zero ++ drop l.place-index l.initial.place-items

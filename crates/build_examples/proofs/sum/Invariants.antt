-- The loop keeps that the sum is small.
use Rattle.std.proofs.Common.{◌<◌}
use Rattle.build_examples.proofs.sum.Given as goal

abbrev pub invariant-loop-n : goal.invariant-loop-n
invariant-loop-n g l = l.total < 65521

-- The loop keeps that the entries of the blocks passed are right, and that the ones are those so far.
use Rattle.bitmap.proofs.Directory.{Filled, Counted}
use Rattle.bitmap.proofs.is_directory.Given as goal

abbrev pub invariant-loop-block : goal.invariant-loop-block
invariant-loop-block l = Counted l.bytes l.block l.ones × Filled l.bytes l.block l.directory

-- The loop keeps `Turn`: of the codes seen, the closed boxes are written and the open one is in hand. Each way through it is a law of Turn.
use Prim.Native.Nat.{◌+◌}
use Rattle.build.proofs.Turn.{Turn}
use Rattle.build.proofs.levels.write_level.Given as goal

abbrev pub invariant-loop-code : goal.invariant-loop-code
invariant-loop-code l = Turn l.initial.g.0 l.initial.bitmap l.codes l.s (l.code-index + 1) l.g.0 l.child l.bits l.bitmap

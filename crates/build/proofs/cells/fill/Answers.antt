use native.Mathlib.Omega.{arith}
use Rattle.build.proofs.Coding.{filled_step}
use Rattle.build.proofs.cells.fill.Goals as goal

pub loop-i-preserved : goal.loop-i-preserved
loop-i-preserved c =
    rw c.code.ensures (filled_step c.loop-i.invariant c.requires.1 c.loop-i-test.true (omega arith))

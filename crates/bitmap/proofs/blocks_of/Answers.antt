-- Rounded up, as the definition has it.
use native.Mathlib.Omega.{arith}
use Rattle.bitmap.specs.Directory.{blocks}
use Rattle.bitmap.proofs.blocks_of.Goals as goal

pub returns : goal.returns
unfolding blocks
returns c = omega (arith, c.div_ceil.ensures)

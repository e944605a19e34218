-- An even group is the first half of its byte, an odd one the second.
use native.Mathlib.Omega.{arith}
use Rattle.bitmap.proofs.Ones.{group_even, group_odd}
use Rattle.bitmap.proofs.group_at.Goals as goal

pub returns-then-g-eq0 : goal.returns-then-g-eq0
returns-then-g-eq0 c = let a = c.args in omega (arith, group_even a.bytes.now a.g.0 (omega arith) (omega arith))

pub returns-else-g-eq0 : goal.returns-else-g-eq0
returns-else-g-eq0 c = let a = c.args in omega (arith, group_odd a.bytes.now a.g.0 (omega arith))

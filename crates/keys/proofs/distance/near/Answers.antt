-- `keys::distance::near` meets its contract. Assumes nothing.
use Prim.Native.Nat.{◌+◌}
use mathlib.Core.Path.{ap₂}
use native.Mathlib.Omega.{arith}
use Rattle.signed.proofs.Signed.{back}
use Rattle.search.specs.Near.{near_at}
use Rattle.keys.proofs.distance.near.Goals as goal

pub returns : goal.returns
unfolding near_at
returns c =
    let g = c.args in
    ap₂ ◌+◌ (rw (back g.row (omega arith)) at c.along.ensures.0) (rw (back g.col (omega arith)) at c.along-2.ensures.0)

-- `keys::distance::square` meets its contract. Assumes nothing.
use Prim.Native.Nat.{◌*◌}
use native.Mathlib.Omega.{arith}
use lib.IntN.{pos, nat_abs}
use Rattle.signed.proofs.Signed.{back, square_is}
use Rattle.search.specs.Near.{square}
use Rattle.search.proofs.Near.{small_square}
use Rattle.keys.proofs.distance.square.Goals as goal

pub returns : goal.returns
unfolding square
returns c = let d = c.args.d in rw (back d (omega arith), square_is d, back (pos (nat_abs d * nat_abs d)) (small_square d c.requires))

-- `keys::distance::along` meets its contract. Assumes nothing.
use Prim.Native.Nat.{ℕ, ◌≤◌}
use mathlib.Core.Path.{◌≡◌, ap, ◌∙◌}
use native.Mathlib.Nat.{mul-le-mul}
use native.Mathlib.Omega.{arith}
use lib.IntN.{ℤ, nat_abs}
use Rattle.signed.proofs.Signed.{back}
use Rattle.board.specs.Limits.{max_place, max_side}
use Rattle.search.specs.Near.{max_gap, gap, signed_gap, square}
use Rattle.search.proofs.Near.{gap_signed, gap_at_most}
use Rattle.keys.proofs.distance.along.Goals as goal

-- the size of what `gap` gave, and its range
record Sized (z place : ℤ) (lo hi : ℕ) : Type 0 where
  is : nat_abs z ≡ gap place lo hi
  small : nat_abs z ≤ max_gap

sized : {z place : ℤ} {lo hi : ℕ} → z ≡ signed_gap place lo hi → nat_abs place ≤ max_place → lo ≤ hi → lo ≤ max_side → Sized z place lo hi
sized {z} {place} {lo} {hi} e h l m =
    let same : nat_abs z ≡ gap place lo hi = ap nat_abs e ∙ gap_signed place lo hi l in
    record { is = same; small = omega (arith, gap_at_most place lo hi l h m) }

pub square-requires : goal.square-requires
square-requires c =
    let g = c.args in
    let z = sized (rw (back g.place (omega arith)) at c.gap.ensures) (omega arith) (omega arith) (omega arith) in
    rw (back c.gap.result (omega arith)) z.small

pub returns : goal.returns
unfolding square
returns c =
    let g = c.args in
    let z = sized (rw (back g.place (omega arith)) at c.gap.ensures) (omega arith) (omega arith) (omega arith) in
    let e : c.square.result ≡ square (nat_abs c.gap.result) = rw (back c.gap.result (omega arith)) at c.square.ensures in
    (e ∙ ap square (rw c.last_of.ensures at z.is), rw e (mul-le-mul z.small z.small))

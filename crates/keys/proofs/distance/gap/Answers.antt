-- `keys::distance::gap` meets its contract. Assumes nothing.
use mathlib.Core.Bool.{true, false}
use mathlib.Core.Path.{◌≡◌}
use native.Mathlib.Omega.{arith}
use lib.IntN.{pos, ◌-ℤ◌}
use lib.Signed.{lt_z}
use Rattle.signed.proofs.Signed.{back, plain, size_minus}
use Rattle.search.specs.Near.{signed_gap}
use Rattle.keys.proofs.distance.gap.Goals as goal

-- the place is before the span
pub returns-then-place-first : goal.returns-then-place-first
unfolding signed_gap
returns-then-place-first c =
    let g = c.args in
    let same = back g.place (omega arith) in let first = plain g.lo (omega arith) in
    let below : lt_z g.place (pos g.lo) ≡ true = rw (same, first) at c.if-place-first.true in
    rw (same, first, back (pos g.lo -ℤ g.place) (omega (arith, size_minus g.lo g.place)), below)

-- the place is past the span
pub returns-then-last-place : goal.returns-then-last-place
unfolding signed_gap
returns-then-last-place c =
    let g = c.args in
    let same = back g.place (omega arith) in let first = plain g.lo (omega arith) in let last = plain g.hi (omega arith) in
    let below : lt_z g.place (pos g.lo) ≡ false = rw (same, first) at c.if-place-first.false in
    let above : lt_z (pos g.hi) g.place ≡ true = rw (same, last) at c.if-last-place.true in
    rw (same, last, back (pos g.hi -ℤ g.place) (omega (arith, size_minus g.hi g.place)), below, above)

-- the place is in the span
pub returns-else-last-place : goal.returns-else-last-place
unfolding signed_gap
returns-else-last-place c =
    let g = c.args in
    let same = back g.place (omega arith) in
    let below : lt_z g.place (pos g.lo) ≡ false = rw (same, plain g.lo (omega arith)) at c.if-place-first.false in
    let above : lt_z (pos g.hi) g.place ≡ false = rw (same, plain g.hi (omega arith)) at c.if-last-place.false in
    rw (below, above)

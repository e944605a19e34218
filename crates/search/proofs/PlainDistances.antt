-- Distances in the words of document 01: what the keys hold of a joint is its squared distance, and what they hold of a box is the smallest squared
-- distance to any of its cells.
use Prim.Native.Nat.{ℕ, suc, ◌+◌, ◌*◌, ◌-◌, ◌/◌, ◌^◌, ◌≤◌, ◌<◌}
use mathlib.Core.Path.{◌≡◌, sym, ◌∙◌}
use mathlib.Core.Logic.{◌↔◌}
use mathlib.Core.List.{List}
use native.Mathlib.Omega.{arith}
use native.Mathlib.Nat.{mul-one, add-sub_cancel, one-le-pow, div-mul-le_self, lt-div-mul-add}
use lib.IntN.{ℤ, pos, negsuc, nat_abs, ◌-ℤ◌}
use Rattle.signed.proofs.Signed.{size_of_difference}
use Rattle.board.specs.Levels.{Box, groups}
use Rattle.board.specs.Under.{Stands}
use Rattle.board.proofs.Levels.{groups_mono}
use Rattle.board.proofs.Rank.{stands_one, group_stands}
use Rattle.board.proofs.Under.{Within}
use Rattle.search.specs.Near.{Place, gap, near, near_at}
use Rattle.search.specs.Plain.{distance, Lies, Smallest, NearDistance}
use Rattle.search.proofs.Near.{in_span, near_cell, nearest_cell, nearest_within, nearest_near}

-- from a place to one row or column
gap_point : (z : ℤ) (n : ℕ) → gap z n n ≡ nat_abs (pos n -ℤ z)
unfolding gap
gap_point (pos m) n = omega (arith, size_of_difference n m)
gap_point (negsuc m) n = omega arith

-- a cell is as far off as a box of side 1
pub distance_plain : (p : Place) (c : Box) → near p 1 c ≡ distance p c.row c.col
unfolding near near_at distance
distance_plain p c = simp (mul-one, add-sub_cancel, gap_point)

-- a cell of a box, by its rows and columns
pub within_lies : (s : ℕ) {b c : Box} → 0 < s → Within s c b → Lies s b c.row c.col
within_lies s {b} {c} some w = record { top = low c.row b.row w.row; bottom = high c.row b.row w.row; left = low c.col b.col w.col; right = high c.col b.col w.col }
  where
    low : (x y : ℕ) → x / s ≡ y → y * s ≤ x
    low x y e = rw (← e) (div-mul-le_self x s)

    high : (x y : ℕ) → x / s ≡ y → x < y * s + s
    high x y e = rw (← e) (lt-div-mul-add some)

-- and back
pub lies_within : (s : ℕ) {b : Box} {r c : ℕ} → Lies s b r c → Within s (record { row = r; col = c }) b
lies_within s {b} {r} {c} l = record { row = in_span s r b.row l.top l.bottom; col = in_span s c b.col l.left l.right }

-- what the keys hold is the smallest squared distance to any of the box's cells
pub near_plain : (p : Place) (s : ℕ) (b : Box) → 0 < s → Smallest p s b (near p s b)
near_plain p s b some = record {
  least = λ r c l. rw (distance_plain p (record { row = r; col = c })) at (near_cell p s some (lies_within s l));
  row = (nearest_cell p s b).row;
  column = (nearest_cell p s b).col;
  lies = within_lies s some (nearest_within p s b some);
  there = sym (distance_plain p (nearest_cell p s b)) ∙ nearest_near p s b some;
}

-- there is one smallest
smallest_one : {p : Place} {s : ℕ} {b : Box} {d e : ℕ} → Smallest p s b d → Smallest p s b e → d ≡ e
smallest_one x y = omega (arith, x.least y.row y.column y.lies, x.there, y.least x.row x.column x.lies, y.there)

-- and one near distance of a group
pub near_one : {p : Place} {h : ℕ} {bytes : List ℕ} {g d e : ℕ} → NearDistance p h bytes g d → NearDistance p h bytes g e → d ≡ e
near_one {bytes = bytes} {g = g} x y =
    let same = stands_one bytes x.level y.level g x.box y.box x.stands y.stands in
    smallest_one x.smallest (rw (same.0, same.1) y.smallest)

-- each group has one
pub near_stands : (p : Place) (h : ℕ) (bytes : List ℕ) (n g : ℕ) (b : Box) → n < h → Stands bytes n g b → NearDistance p h bytes g (near p (2 ^ (h - n)) b)
near_stands p h bytes n g b lt s = record { level = n; box = b; above = lt; stands = s; smallest = near_plain p (2 ^ (h - n)) b (one-le-pow (h - n) 2 (omega arith)) }

-- each number below the number of groups is a box and has a near distance, and no other number is
pub near_some : (p : Place) (h : ℕ) (bytes : List ℕ) (g : ℕ) → (g < groups h bytes) ↔ ((d : ℕ) × NearDistance p h bytes g d)
near_some p h bytes g = (
  λ lt. let s = group_stands bytes h g lt in (near p (2 ^ (h - s.0)) s.1, near_stands p h bytes s.0 g s.1 s.2 s.3),
  λ n. omega (arith, n.1.stands.high, groups_mono bytes (suc n.1.level) h n.1.above),
)

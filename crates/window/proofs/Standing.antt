-- A spot of a board that may be asked: its group lies within the bytes, and its cells are on the board.
use Prim.Native.Nat.{ℕ, zero, suc, ◌+◌, ◌*◌, ◌-◌, ◌^◌, ◌≤◌, ◌<◌}
use mathlib.Core.Path.{◌≡◌}
use mathlib.Core.List.{List}
use native.Mathlib.Omega.{arith}
use native.Mathlib.Nat.{add-zero, add-suc, mul-one, mul_assoc, pow-suc, suc-mul, mul-le-mul_right, pow-le-pow_right}
use lib.ListN.{length}
use Rattle.window.specs.declared.Spot.{Spot}
use Rattle.board.specs.Limits.{max_height}
use Rattle.window.specs.Listing.{box_of, StoodOn}
use Rattle.board.proofs.Down.{stands_within}
use Rattle.board.proofs.Under.{stands_small}

-- a box's group lies within the bytes
pub group_within : (bytes : List ℕ) (s : Spot) → StoodOn bytes s → 1 ≤ s.left → s.group.0 < 2 * length bytes
group_within bytes s t l =
    (stands_within t.height bytes _ (t.height - s.left) s.group.0 (box_of s) t.ready t.stands (omega (arith, t.tall, t.ready.valid.tall))).0

-- a power of two in two parts
pow_add : (a b : ℕ) → 2 ^ (a + b) ≡ 2 ^ a * 2 ^ b
pow_add a zero = rw (add-zero, mul-one)
pow_add a (suc b) = rw (add-suc, pow-suc, pow-suc, pow_add a b, mul_assoc)

-- the cells of a box of side 2 ^ n, number x in a row of such boxes, are on a board of side 2 ^ h
cells_on_board : (h n x : ℕ) → n ≤ h → x < 2 ^ (h - n) → x * 2 ^ n + 2 ^ n ≤ 2 ^ h
cells_on_board h n x le low =
    let e : h - n + n ≡ h = omega arith in
    let all = rw (suc-mul, ← pow_add (h - n) n, e) at (mul-le-mul_right {m = suc x} {n = 2 ^ (h - n)} (2 ^ n) (omega arith)) in
    omega arith

-- the levels left of a spot, and where its cells end
pub record Fits (s : Spot) : Type 0 where
  pub low : s.left ≤ max_height
  pub rows : s.row * 2 ^ s.left + 2 ^ s.left ≤ 2 ^ max_height
  pub columns : s.column * 2 ^ s.left + 2 ^ s.left ≤ 2 ^ max_height
  pub row : s.row < 2 ^ max_height
  pub column : s.column < 2 ^ max_height

-- they are those of the largest board at most
pub stood_fits : (bytes : List ℕ) (s : Spot) → StoodOn bytes s → Fits s
stood_fits bytes s t =
    let small = stands_small bytes (t.height - s.left) s.group.0 (box_of s) t.stands in
    let most : 2 ^ t.height ≤ 2 ^ max_height = pow-le-pow_right {n = 2} (omega arith) {i = t.height} {j = max_height} t.ready.low in
    let less : 2 ^ (t.height - s.left) ≤ 2 ^ max_height = pow-le-pow_right {n = 2} (omega arith) {i = t.height - s.left} {j = max_height} (omega (arith, t.ready.low)) in
    record {
      low = omega (arith, t.tall, t.ready.low);
      rows = omega (arith, cells_on_board t.height s.left s.row t.tall small.rows);
      columns = omega (arith, cells_on_board t.height s.left s.column t.tall small.cols);
      row = omega (arith, small.rows);
      column = omega (arith, small.cols);
    }

-- the side of the largest board is small
pub side_small : 2 ^ max_height < 2 ^ 30
unfolding max_height
side_small = omega arith

-- The way down to a cell as the code goes it: with `left` levels left, group g is the box of level h - left that holds the cell.
use Prim.Native.Nat.{ℕ, suc, ◌+◌, ◌*◌, ◌-◌, ◌/◌, ◌%◌, ◌^◌, ◌≤◌, ◌<◌}
use mathlib.Core.Bool.{true, false}
use mathlib.Core.Path.{◌≡◌, refl, sym, ap, ◌∙◌}
use mathlib.Core.List.{List}
use native.Mathlib.Omega.{arith}
use native.Mathlib.Nat.{div-eq_of_lt, div-lt_iff_lt-mul, one-le-pow}
use lib.ListN.{length}
use lib.Dec.{ltb}
use borrow.Author.Tests.{ltb-true, lt-ltb, le-ltb, eq-eqb, ne_eqb}
use Rattle.refusal.proofs.Tests.{both}
use Rattle.order.specs.Order.{has}
use Rattle.order.proofs.Cases.{ltb_cases}
use Rattle.bitmap.specs.Bits.{bit_at, group_at, rank}
use Rattle.bitmap.proofs.Ones.{bit_small, bit_of_group}
use Rattle.board.specs.Levels.{Box, groups}
use Rattle.board.specs.Code.{code}
use Rattle.board.specs.Under.{Stands}
use Rattle.board.specs.Ready.{Ready}
use Rattle.board.specs.Member.{stored, on_board}
use Rattle.board.proofs.Levels.{groups_mono}
use Rattle.board.proofs.Rank.{stands_root, rank_is_place}
use Rattle.board.proofs.Codes.{codes}
use Rattle.board.proofs.Bounds.{groups_at_most, group_in_bytes}
use Rattle.board.proofs.WayDown.{holder, digit, digit_small, holder_down, holder_root, zero_not_stored, end_stored, stored_code}

-- on the board, or not, by the quotient
pub quot_below : (h x : ℕ) → x / 2 ^ h ≡ 0 → x < 2 ^ h
quot_below h x e = let k : x / 2 ^ h < 1 = omega arith in omega (arith, (div-lt_iff_lt-mul (one-le-pow h 2 (omega arith))).0 k)

pub quot_above : (h x : ℕ) → (x / 2 ^ h ≡ 0 → ⊥) → 2 ^ h ≤ x
quot_above h x n = ltb_cases x (2 ^ h) (λ l e. absurd (n (div-eq_of_lt l))) (λ l e. l)

-- a cell on the board
pub on_board_both : (h r c : ℕ) → on_board h r c ≡ true → (r < 2 ^ h) × (c < 2 ^ h)
unfolding on_board
on_board_both h r c e = let k = both (ltb r (2 ^ h)) (ltb c (2 ^ h)) e in (ltb-true r (2 ^ h) k.0, ltb-true c (2 ^ h) k.1)

-- a cell whose row and column are within the side is on the board, and one of which either is past it is off
pub on_by_quotients : (h r c : ℕ) → r / 2 ^ h ≡ 0 → c / 2 ^ h ≡ 0 → true ≡ on_board h r c
unfolding on_board
on_by_quotients h r c row column = rw (lt-ltb r (2 ^ h) (quot_below h r row), lt-ltb c (2 ^ h) (quot_below h c column))

pub off_by_row : (h r c : ℕ) → (r / 2 ^ h ≡ 0 → ⊥) → false ≡ on_board h r c
unfolding on_board
off_by_row h r c past = rw (le-ltb r (2 ^ h) (quot_above h r past))

pub off_by_column : (h r c : ℕ) → r / 2 ^ h ≡ 0 → (c / 2 ^ h ≡ 0 → ⊥) → false ≡ on_board h r c
unfolding on_board
off_by_column h r c within past = rw (lt-ltb r (2 ^ h) (quot_below h r within), le-ltb c (2 ^ h) (quot_above h c past))

-- a group above the last level lies within the bytes, and its number is small
pub stands_within : (h : ℕ) (bytes directory : List ℕ) (n g : ℕ) (b : Box) → Ready h bytes directory → Stands bytes n g b → n < h
    → (g < 2 * length bytes) × (g < 2 ^ 24)
stands_within h bytes directory n g b r s l =
    let low : g < groups h bytes = omega (arith, s.high, groups_mono bytes (suc n) h l) in
    (omega (arith, group_in_bytes h bytes g r.valid low), omega (arith, groups_at_most h bytes r.valid r.low r.few))

-- which quarter, as the code counts it
pub digit_is : (s r c : ℕ) → 2 * (r / 2 ^ s % 2) + c / 2 ^ s % 2 ≡ digit s r c
unfolding digit
digit_is s r c = refl

-- it begins at the whole board
pub down_start : (h : ℕ) (bytes : List ℕ) (r c : ℕ) → r < 2 ^ h → c < 2 ^ h → Stands bytes (h - h) 0 (holder h r c)
down_start h bytes r c a b = let none : h - h ≡ 0 = omega arith in rw (none, holder_root h r c a b) (stands_root bytes)

-- a bit is 0 or 1
bit_one : (bytes : List ℕ) (g q : ℕ) → q < 4 → (bit_at bytes (4 * g + q) ≡ 0 → ⊥) → bit_at bytes (4 * g + q) ≡ 1
bit_one bytes g q h n = omega (arith, bit_of_group bytes g q h, bit_small (group_at bytes g) q)

-- a one leads to the box of the next level that holds the cell
pub down_step : (h : ℕ) (bytes : List ℕ) (left g r c : ℕ) → 0 < left → left ≤ h → Stands bytes (h - left) g (holder left r c)
    → (bit_at bytes (4 * g + digit (left - 1) r c) ≡ 0 → ⊥) → Stands bytes (h - (left - 1)) (rank bytes (4 * g + digit (left - 1) r c)) (holder (left - 1) r c)
down_step h bytes left g r c pos le s n =
    let q = digit (left - 1) r c in
    let on : h - (left - 1) ≡ suc (h - left) = omega arith in
    let up : left ≡ suc (left - 1) = omega arith in
    let at : holder left r c ≡ holder (suc (left - 1)) r c = ap (λ (k : ℕ). holder k r c) up in
    rw (on, ← holder_down (left - 1) r c) (rank_is_place bytes (h - left) g q _ (rw at at s) (digit_small _ r c) (bit_one bytes g q (digit_small _ r c) n))

-- a zero ends it: the cell is not stored
pub down_zero : (h : ℕ) (bytes : List ℕ) (left g r c : ℕ) → r < 2 ^ h → c < 2 ^ h → 0 < left → left ≤ h → Stands bytes (h - left) g (holder left r c)
    → bit_at bytes (4 * g + digit (left - 1) r c) ≡ 0 → false ≡ stored h bytes r c
down_zero h bytes left g r c lr lc pos le s e =
    let up : left ≡ suc (left - 1) = omega arith in
    let at : holder left r c ≡ holder (suc (left - 1)) r c = ap (λ (k : ℕ). holder k r c) up in
    let all : suc (h - left) + (left - 1) ≡ h = omega arith in
    let none = rw all at (zero_not_stored bytes (h - left) (left - 1) g r c (rw at at s) e) in
    sym (stored_code h bytes r c lr lc ∙ ne_eqb (has (code h r c) (codes h bytes)) 1 (λ one. omega arith))

-- at its end the cell is stored
pub down_end : (h : ℕ) (bytes : List ℕ) (left g r c : ℕ) → r < 2 ^ h → c < 2 ^ h → left ≤ 0 → Stands bytes (h - left) g (holder left r c) → true ≡ stored h bytes r c
down_end h bytes left g r c lr lc z s =
    let none : left ≡ 0 = omega arith in
    let all : h - 0 ≡ h = omega arith in
    sym (stored_code h bytes r c lr lc ∙ eq-eqb _ 1 (end_stored bytes h g r c (rw (none, all) at s)))

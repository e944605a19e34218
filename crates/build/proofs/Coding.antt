-- Cells given by a row list and a column list: the invariants of the loops that test them, make a code and fill the work list.
use Prim.Native.Nat.{ℕ, zero, suc, ◌+◌, ◌*◌, ◌-◌, ◌/◌, ◌%◌, ◌^◌, ◌≤◌, ◌<◌}
use mathlib.Core.Bool.{Bool, true, false, ◌&&◌}
use mathlib.Core.Path.{◌≡◌, refl, sym, ap, ◌∙◌}
use mathlib.Core.List.{List, [], ◌∷◌, ◌++◌, map, map-append}
use native.Mathlib.Omega.{arith}
use native.Mathlib.Numerals.{add-one}
use native.Mathlib.Nat.{sub_self, pow-suc, div-div-eq-div-mul, pow-le-pow_right}
use lib.ListN.{length, get_or, set, take, drop, length-map, length-set}
use lib.Seq.{drop-cons, take-suc, set_at, append_snoc, length-take-le}
use Rattle.std.specs.Bool.{MatchBool}
use Rattle.std.specs.List.{zip, AllWithin, HoldsAt}
use Rattle.board.specs.Limits.{max_height}
use Rattle.board.specs.Levels.{Box}
use Rattle.board.specs.Code.{code, code_of}
use Rattle.board.specs.Member.{on_board}
use Rattle.board.proofs.Codes.{code_below}
use Rattle.build.specs.Answers.{cells_of, all_on}

-- the quarters of a cell's boxes down to side 2 ^ left are digits already
pub record Coding (h r c left found : ℕ) : Type 0 where
  pub high : left ≤ h
  pub is : found ≡ code (h - left) (r / 2 ^ left) (c / 2 ^ left)

-- none is
pub coding_start : (h r c : ℕ) → Coding h r c h 0
unfolding code
coding_start h r c = record { high = omega arith; is = rw sub_self }

-- one more
pub coding_step : (h r c left found : ℕ) → 0 < left → Coding h r c left found → Coding h r c (left - 1) (4 * found + 2 * (r / 2 ^ (left - 1) % 2) + c / 2 ^ (left - 1) % 2)
coding_step h r c zero found pos k = absurd (omega arith)
coding_step h r c (suc left) found pos k =
    let down : suc left - 1 ≡ left = omega arith in
    let more : h - left ≡ suc (h - suc left) = omega (arith, k.high) in
    rw down (record { high = omega (arith, k.high); is = rw (more, k.is) (unfold code in rw (half r, half c)) })
  where
    half : (x : ℕ) → x / 2 ^ left / 2 ≡ x / 2 ^ suc left
    half x = rw (pow-suc, div-div-eq-div-mul)

-- a code within the limits has room to grow
pub coding_small : (h r c left found : ℕ) → h ≤ max_height → Coding h r c left found → found < 4 ^ 12
unfolding max_height
coding_small h r c left found low k =
    let le : h - left ≤ 12 = omega arith in
    let few : 4 ^ (h - left) ≤ 4 ^ 12 = pow-le-pow_right {n = 4} (omega arith) le in
    omega (arith, code_below (h - left) (r / 2 ^ left) (c / 2 ^ left), k.is)

-- the cell at a place, and those behind it
cells_at : (rows columns : List ℕ) (i : ℕ) → i < length rows → length rows ≡ length columns
    → cells_of (drop i rows) (drop i columns) ≡ record { row = get_or rows i 0; col = get_or columns i 0 } ∷ cells_of (drop (suc i) rows) (drop (suc i) columns)
unfolding cells_of
cells_at rows columns i lt e = rw (drop-cons rows i 0 lt, drop-cons columns i 0 (omega arith))

-- every row and column in one place are a cell on the board
tested_all : (h : ℕ) (rows columns : List ℕ) → AllWithin (λ (p : ℕ × ℕ). on_board h p.0 p.1 ≡ true) (zip rows columns) 0 (length (zip rows columns)) → all_on h (cells_of rows columns) ≡ true
unfolding all_on cells_of
tested_all h [] columns on = refl
tested_all h (r ∷ rows) [] on = refl
tested_all h (r ∷ rows) (c ∷ columns) on = rw (on 0 (r, c) (omega arith) (omega arith)) (tested_all h rows columns (λ k d low high. on (suc k) d (omega arith) (omega arith)))

-- or those in one place are not
tested_off : (h : ℕ) (rows columns : List ℕ) (k : ℕ) → k < length (zip rows columns) → HoldsAt (λ (p : ℕ × ℕ). on_board h p.0 p.1 ≡ false) (zip rows columns) k → all_on h (cells_of rows columns) ≡ false
unfolding all_on cells_of
tested_off h [] columns k l off = absurd (omega arith)
tested_off h (r ∷ rows) [] k l off = absurd (omega arith)
tested_off h (r ∷ rows) (c ∷ columns) zero l off = rw (off (r, c))
tested_off h (r ∷ rows) (c ∷ columns) (suc k) l off = rw (tested_off h rows columns k (omega arith) off) (last (on_board h r c))
  where
    last : (t : Bool) → t && false ≡ false
    last true = refl
    last false = refl

-- so the test of all is told by those of each
pub tested : (h : ℕ) (rows columns : List ℕ) (t : Bool)
    → MatchBool t (AllWithin (λ (p : ℕ × ℕ). on_board h p.0 p.1 ≡ true) (zip rows columns) 0 (length (zip rows columns)))
    ((k : ℕ) × (k < length (zip rows columns)) × HoldsAt (λ (p : ℕ × ℕ). on_board h p.0 p.1 ≡ false) (zip rows columns) k)
    → t ≡ all_on h (cells_of rows columns)
tested h rows columns true on = sym (tested_all h rows columns on)
tested h rows columns false off = sym (tested_off h rows columns off.0 off.1 off.2)

-- one cell more
cells_snoc : (rows columns : List ℕ) (r c : ℕ) → length rows ≡ length columns → cells_of (rows ++ r ∷ []) (columns ++ c ∷ []) ≡ cells_of rows columns ++ record { row = r; col = c } ∷ []
unfolding cells_of
cells_snoc [] [] r c e = refl
cells_snoc [] (y ∷ ys) r c e = absurd (omega arith)
cells_snoc (x ∷ xs) [] r c e = absurd (omega arith)
cells_snoc (x ∷ xs) (y ∷ ys) r c e = ap (λ (bs : List Box). record { row = x; col = y } ∷ bs) (cells_snoc xs ys r c (omega arith))

-- as many cells as rows
pub length_cells : (rows columns : List ℕ) → length rows ≡ length columns → length (cells_of rows columns) ≡ length rows
unfolding cells_of
length_cells [] ys e = refl
length_cells (x ∷ xs) [] e = absurd (omega arith)
length_cells (x ∷ xs) (y ∷ ys) e = ap suc (length_cells xs ys (omega arith))

-- the codes of the first i cells stand in the work list, and behind them what stood there
pub record Filled (h : ℕ) (rows columns work₀ : List ℕ) (i : ℕ) (work : List ℕ) : Type 0 where
  pub high : i ≤ length rows
  pub has : work ≡ map (code_of h) (cells_of (take i rows) (take i columns)) ++ drop i work₀
  pub as_long : length work ≡ length work₀

-- at first of none
pub filled_start : (h : ℕ) (rows columns work₀ : List ℕ) → Filled h rows columns work₀ 0 work₀
unfolding cells_of
filled_start h rows columns work₀ = record { high = omega arith; has = refl; as_long = refl }

module _ {h : ℕ} {rows columns work₀ : List ℕ} {i : ℕ} {work : List ℕ} (k : Filled h rows columns work₀ i work) (e : length rows ≡ length columns) where
  -- one more
  pub filled_step : i < length rows → i < length work₀ → Filled h rows columns work₀ (i + 1) (set work i (code h (get_or rows i 0) (get_or columns i 0)))
  filled_step lt room =
      let cells = take-suc rows i 0 lt in
      let also = take-suc columns i 0 (omega arith) in
      let long : length (take i rows) ≡ length (take i columns) = length-take-le i rows (omega arith) ∙ sym (length-take-le i columns (omega arith)) in
      let front = map (code_of h) (cells_of (take i rows) (take i columns)) in
      let many : length front ≡ i = length-map (cells_of (take i rows) (take i columns)) (code_of h) ∙ length_cells (take i rows) (take i columns) long ∙ length-take-le i rows (omega arith) in
      rw add-one (record {
        high = lt;
        has =
            rw (k.has, drop-cons work₀ i 0 room, cells, also, cells_snoc (take i rows) (take i columns) (get_or rows i 0) (get_or columns i 0) long, map-append, append_snoc)
            (set_at front (get_or work₀ i 0) (drop (suc i) work₀) (code h (get_or rows i 0) (get_or columns i 0)) i many);
        as_long = length-set work i _ ∙ k.as_long;
      })

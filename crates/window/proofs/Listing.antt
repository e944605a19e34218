-- A window's listing as its two functions go: a quarter of a box, and the box by its quarters.
use Prim.Native.Nat.{ℕ, zero, suc, ◌+◌, ◌*◌, ◌-◌, ◌/◌, ◌%◌, ◌≤◌, ◌<◌}
use mathlib.Core.Bool.{Bool, true}
use mathlib.Core.Path.{◌≡◌, refl, sym, ap, ◌∙◌}
use mathlib.Core.List.{List, [], ◌∷◌, ◌++◌, map, map-append, append_assoc}
use native.Mathlib.Omega.{arith}
use native.Mathlib.Numerals.{add-one}
use native.Mathlib.Nat.{add-zero, add-suc, suc-add}
use lib.ListN.{length, set, length-append, length-map}
use lib.Seq.{sets, length-sets}
use Rattle.order.specs.Order.{keep}
use Rattle.order.proofs.Cases.{test_cases}
use Rattle.order.proofs.Keep.{keep_append}
use Rattle.bitmap.specs.Bits.{bit_at, group_at, rank, bit_of}
use Rattle.bitmap.proofs.RankByGroup.{ones_to}
use Rattle.bitmap.proofs.Ones.{bit_small, bit_of_group}
use Rattle.window.specs.declared.Pane.{Pane}
use Rattle.window.specs.declared.Spot.{Spot}
use Rattle.board.specs.Levels.{Box}
use Rattle.board.specs.Under.{quarter, under, first_child, if_one, at_quarter}
use Rattle.window.specs.Window.{row_of, column_of}
use Rattle.window.specs.Span.{within, meets_span}
use Rattle.window.specs.Listing.{Listed, box_of, under_spot, StoodOn}
use Rattle.board.proofs.Rank.{rank_is_place}
use Rattle.board.proofs.Codes.{box_path}
use Rattle.board.proofs.Under.{rank_child, at_quarter_lem, under_quarters}
use Rattle.window.proofs.Spans.{meets_cell}

-- no more is kept than there is
pub keep_le : {A : Type 0} (p : A → Bool) (l : List A) → length (keep p l) ≤ length l
unfolding keep
keep_le p [] = omega arith
keep_le p (x ∷ xs) = test_cases (p x) (λ e. rw e (omega (arith, keep_le p xs))) (λ e. rw e (omega (arith, keep_le p xs)))

-- stores in a row, in two parts
sets_append : (l : List ℕ) (n : ℕ) (xs ys : List ℕ) → sets l n (xs ++ ys) ≡ sets (sets l n xs) (n + length xs) ys
sets_append l n [] ys = rw add-zero
sets_append l n (x ∷ xs) ys = rw (sets_append (set l n x) (suc n) xs ys, suc-add, ← add-suc n)

module _ (p : Pane) where
  -- where nothing is in the pane, nothing is written
  pub listed_nothing : (bs : List Box) (n : ℕ) (rows columns : List ℕ) → keep (within p) bs ≡ [] → Listed p bs n n rows rows columns columns
  listed_nothing bs n rows columns e = record { count = rw e (omega arith); rows_are = rw e; columns_are = rw e }

  -- nor where there is nothing
  pub listed_none : (n : ℕ) (rows columns : List ℕ) → Listed p [] n n rows rows columns columns
  unfolding keep
  listed_none n rows columns = listed_nothing [] n rows columns refl

  -- listing one part after the other
  pub listed_more : (xs ys : List Box) (n m r : ℕ) (rows rows' rows'' columns columns' columns'' : List ℕ)
      → Listed p xs n m rows rows' columns columns' → Listed p ys m r rows' rows'' columns' columns'' → Listed p (xs ++ ys) n r rows rows'' columns columns''
  listed_more xs ys n m r rows rows' rows'' columns columns' columns'' a b = record {
    count = rw (keep_append, length-append) (omega (arith, a.count, b.count));
    rows_are = rw (keep_append, map-append, sets_append, length-map, ← a.count, ← a.rows_are) b.rows_are;
    columns_are = rw (keep_append, map-append, sets_append, length-map, ← a.count, ← a.columns_are) b.columns_are;
  }

  -- listing a cell that is in the pane
  pub listed_cell : (b : Box) (n : ℕ) (rows columns : List ℕ) → within p b ≡ true → Listed p (b ∷ []) n (n + 1) rows (set rows n b.row) columns (set columns n b.col)
  unfolding keep
  listed_cell b n rows columns e = record { count = rw e (omega arith); rows_are = rw e refl; columns_are = rw e refl }

  -- the lists keep their lengths
  pub listed_lengths : (bs : List Box) (n r : ℕ) (rows rows' columns columns' : List ℕ) → Listed p bs n r rows rows' columns columns'
      → (length rows' ≡ length rows) × (length columns' ≡ length columns)
  listed_lengths bs n r rows rows' columns columns' a =
      (rw a.rows_are (length-sets rows n (map row_of (keep (within p) bs))), rw a.columns_are (length-sets columns n (map column_of (keep (within p) bs))))

-- what lies under the first q quarters of a box
unfoldable pub under_to : List ℕ → ℕ → ℕ → Box → ℕ → List Box
under_to bytes k g b zero = []
under_to bytes k g b (suc q) = under_to bytes k g b q ++ at_quarter (under bytes k) bytes g b q

-- under all four: under the box
under_four : (bytes : List ℕ) (k g : ℕ) (b : Box) → under_to bytes k g b 4 ≡ under bytes (suc k) g b
unfolding under_to
under_four bytes k g b = rw (under_quarters, append_assoc, append_assoc)

-- one quarter more
under_more : (bytes : List ℕ) (k g : ℕ) (b : Box) (q c : ℕ) → q < 4 → c ≡ first_child bytes g + ones_to (group_at bytes g) q
    → under_to bytes k g b (suc q) ≡ under_to bytes k g b q ++ if_one (bit_of (group_at bytes g) q) (under bytes k c (quarter q b))
unfolding under_to
under_more bytes k g b q c h e = rw (← at_quarter_lem (under bytes k) bytes g b q c h e)

-- the first quarters have no more than the box
under_to_le : (bytes : List ℕ) (k g : ℕ) (b : Box) (q : ℕ) → q ≤ 4 → length (under_to bytes k g b q) ≤ length (under bytes (suc k) g b)
unfolding under_to
under_to_le bytes k g b q h = let e : q + (4 - q) ≡ 4 = omega arith in rw (← under_four bytes k g b) (rw e at (go (4 - q)))
  where
    go : (j : ℕ) → length (under_to bytes k g b q) ≤ length (under_to bytes k g b (q + j))
    go zero = rw add-zero (omega arith)
    go (suc j) = rw (add-suc, length-append) (omega (arith, go j))

-- what `quarter_spot` makes
abbrev pub IsQuarter : Spot → ℕ → ℕ → Spot → Type 0
IsQuarter s q c t = (t.left ≡ s.left - 1) × (t.group.0 ≡ c) × (t.row ≡ 2 * s.row + q / 2) × (t.column ≡ 2 * s.column + q % 2)

-- the group of quarter q, where its bit is one
abbrev pub IsChild : List ℕ → Spot → ℕ → ℕ → Type 0
IsChild bytes s q c = c ≡ first_child bytes s.group.0 + ones_to (group_at bytes s.group.0) q

-- its box is a quarter of the box
quarter_box : (s : Spot) (q c : ℕ) (t : Spot) → IsQuarter s q c t → box_of t ≡ quarter q (box_of s)
unfolding quarter
quarter_box s q c t i = box_path _ _ i.2 i.3

-- a quarter whose bit is one stands at its place
pub quarter_stood : (bytes : List ℕ) (s : Spot) (q c : ℕ) (t : Spot) → StoodOn bytes s → 1 ≤ s.left → q < 4
    → IsChild bytes s q c → IsQuarter s q c t → 1 ≤ bit_of (group_at bytes s.group.0) q → StoodOn bytes t
quarter_stood bytes s q c t st l k e i one =
    let g : ℕ = s.group.0 in
    let bit : bit_at bytes (4 * g + q) ≡ 1 = omega (arith, bit_of_group bytes g q k, bit_small (group_at bytes g) q) in
    let at : t.group.0 ≡ rank bytes (4 * g + q) = i.1 ∙ e ∙ sym (rank_child bytes g q k bit) in
    let down : st.height - t.left ≡ suc (st.height - s.left) = omega (arith, i.0, st.tall) in
    record {
      height = st.height;
      ready = st.ready;
      tall = omega (arith, i.0, st.tall);
      stands = rw (at, down, quarter_box s q c t i) (rank_is_place bytes (st.height - s.left) g q (box_of s) st.stands k bit);
    }

-- what is under that quarter
quarter_under : (bytes : List ℕ) (s : Spot) (q c : ℕ) (t : Spot) → IsQuarter s q c t → under_spot bytes t ≡ under bytes (s.left - 1) c (quarter q (box_of s))
quarter_under bytes s q c t i = rw (quarter_box s q c t i, i.0, i.1)

-- the first quarters are listed, in the order of the box
abbrev pub Partly : Pane → List ℕ → Spot → ℕ → ℕ → ℕ → List ℕ → List ℕ → List ℕ → List ℕ → Type 0
Partly p bytes s q n m rows rows' columns columns' = Listed p (under_to bytes (s.left - 1) s.group.0 (box_of s) q) n m rows rows' columns columns'

module _ (p : Pane) (bytes : List ℕ) (s : Spot) where
  -- none so far
  pub partly_none : (n : ℕ) (rows columns : List ℕ) → Partly p bytes s 0 n n rows rows columns columns
  unfolding under_to
  partly_none n rows columns = listed_none p n rows columns

  module _ (q c : ℕ) (t : Spot) (k : q < 4) (e : IsChild bytes s q c) (i : IsQuarter s q c t) where
    -- one quarter more
    pub partly_more : (n m r : ℕ) (rows rows' rows'' columns columns' columns'' : List ℕ) → Partly p bytes s q n m rows rows' columns columns'
        → Listed p (if_one (bit_of (group_at bytes s.group.0) q) (under_spot bytes t)) m r rows' rows'' columns' columns'' → Partly p bytes s (q + 1) n r rows rows'' columns columns''
    partly_more n m r rows rows' rows'' columns columns' columns'' a b =
        rw (add-one q, under_more bytes (s.left - 1) s.group.0 (box_of s) q c k e)
        (listed_more p _ _ n m r rows rows' rows'' columns columns' columns'' a (rw (quarter_under bytes s q c t i) at b))

    -- the count stays below any bound that holds for the whole box
    pub partly_room : (n m z : ℕ) (rows rows' columns columns' : List ℕ) → 1 ≤ s.left → n + length (under_spot bytes s) < z → Partly p bytes s q n m rows rows' columns columns'
        → m + length (if_one (bit_of (group_at bytes s.group.0) q) (under_spot bytes t)) < z
    partly_room n m z rows rows' columns columns' l room a =
        let down : s.left ≡ suc (s.left - 1) = omega arith in
        let all = ap (λ (x : ℕ). length (under bytes x s.group.0 (box_of s))) down in
        let more = ap length (under_more bytes (s.left - 1) s.group.0 (box_of s) q c k e) in
        let le = under_to_le bytes (s.left - 1) s.group.0 (box_of s) (suc q) (omega arith) in
        rw (quarter_under bytes s q c t i) (omega (arith, a.count, keep_le (within p) (under_to bytes (s.left - 1) s.group.0 (box_of s) q), simp length-append at more, le, all))

  -- all four quarters are the box
  pub partly_all : (q n m : ℕ) (rows rows' columns columns' : List ℕ) → 1 ≤ s.left → q ≡ 4
      → Partly p bytes s q n m rows rows' columns columns' → Listed p (under_spot bytes s) n m rows rows' columns columns'
  partly_all q n m rows rows' columns columns' l e a =
      let down : s.left ≡ suc (s.left - 1) = omega arith in
      let all : under_to bytes (s.left - 1) s.group.0 (box_of s) q ≡ under_spot bytes s
      = ap (under_to bytes (s.left - 1) s.group.0 (box_of s)) e ∙ under_four bytes (s.left - 1) s.group.0 (box_of s) ∙ ap (λ (x : ℕ). under bytes x s.group.0 (box_of s)) (sym down) in
      rw (← all) a

-- a list where the bit is zero is empty
pub if_one_none : {A : Type 0} (n : ℕ) (xs : List A) → n ≡ 0 → if_one n xs ≡ []
unfolding if_one
if_one_none n xs e = rw e

-- where the bit is one, a list is whole
pub if_one_some : {A : Type 0} (n : ℕ) (xs : List A) → 1 ≤ n → if_one n xs ≡ xs
unfolding if_one
if_one_some zero xs h = absurd (omega arith)
if_one_some (suc n) xs h = refl

-- a quarter that is not there, or that has nothing in the pane, is not listed
pub listed_beside : (p : Pane) (one : ℕ) (bs : List Box) (n : ℕ) (rows columns : List ℕ) → (1 ≤ one → keep (within p) bs ≡ []) → Listed p (if_one one bs) n n rows rows columns columns
unfolding if_one
listed_beside p zero bs n rows columns e = listed_none p n rows columns
listed_beside p (suc one) bs n rows columns e = listed_nothing p bs n rows columns (e (omega arith))

-- with no level left a spot is a cell
pub spot_cell : (bytes : List ℕ) (s : Spot) → s.left ≡ 0 → under_spot bytes s ≡ box_of s ∷ []
unfolding under
spot_cell bytes s e = rw e

-- a cell that meets both spans is listed
pub cell_listed : (p : Pane) (bytes : List ℕ) (s : Spot) (n : ℕ) (rows columns : List ℕ) → s.left ≡ 0
    → meets_span p.rows s.left s.row ≡ true → meets_span p.columns s.left s.column ≡ true
    → Listed p (under_spot bytes s) n (n + 1) rows (set rows n s.row) columns (set columns n s.column)
unfolding within
cell_listed p bytes s n rows columns e r c =
    rw (spot_cell bytes s e)
    (listed_cell p (box_of s) n rows columns (rw (← meets_cell p.rows s.row, ← meets_cell p.columns s.column, rw e at r, rw e at c)))

-- one quarter more, one child more where its bit is one
pub ones_to_more : (bits q : ℕ) → ones_to bits (q + 1) ≡ ones_to bits q + bit_of bits q
unfolding ones_to
ones_to_more bits q = rw add-one

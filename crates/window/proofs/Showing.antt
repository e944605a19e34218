-- A window's answer: the whole board as a spot, and two lists of zeros with what is found at their beginning.
use Prim.Native.Nat.{ℕ, zero, suc, ◌+◌, ◌-◌, ◌^◌, ◌≤◌, ◌<◌}
use mathlib.Core.Bool.{Bool, true, false, ◌&&◌}
use mathlib.Core.Path.{◌≡◌, refl, sym, ap, ◌∙◌}
use mathlib.Core.Logic.{◌⊎◌, ⊎_elim}
use mathlib.Core.List.{List, [], ◌∷◌, ◌++◌, map}
use native.Mathlib.Omega.{arith}
use native.Mathlib.Nat.{zero-add, pow-le-pow_right}
use lib.ListN.{length, drop, replicate, length-map, length-replicate}
use lib.Seq.{sets, sets-eq}
use lib.Dec.{leb, ltb}
use borrow.Author.Tests.{ltb-true, le-leb, lt-leb, lt-ltb}
use Rattle.std.specs.Prelude.{Result, Ok, Err}
use Rattle.refusal.specs.declared.Refusal.{Refusal}
use Rattle.refusal.proofs.Tests.{both}
use Rattle.refusal.specs.Answer.{Answer, Served, Refused, left_in}
use Rattle.refusal.specs.declared.Refusal.TheVariants.{AnswerRoom}
use Rattle.refusal.proofs.Answers.{stays, goes_on}
use Rattle.order.specs.Order.{keep}
use Rattle.order.proofs.Cases.{test_cases, ltb_cases}
use Rattle.bitmap.specs.declared.GroupNo.{GroupNo}
use Rattle.bitmap.specs.Directory.{directory_of, alike}
use Rattle.window.specs.declared.Pane.{Pane}
use Rattle.window.specs.declared.Spot.{Spot}
use Rattle.board.specs.Limits.{max_height, max_joints}
use Rattle.board.specs.Levels.{Box, joints}
use Rattle.board.specs.Check.{check_of}
use Rattle.board.specs.Ready.{Ready, asked_of}
use Rattle.window.specs.Window.{Window, inside, found, ends_fit, window_fits, roomed, window_of, window_numbers, row_of, column_of, Shown}
use Rattle.window.specs.Span.{within, raised}
use Rattle.window.specs.Listing.{Listed, under_spot, StoodOn}
use Rattle.board.proofs.Rank.{stands_root}
use Rattle.board.proofs.Under.{joints_under_lem}
use Rattle.window.proofs.Spans.{inside_raised}
use Rattle.window.proofs.Standing.{side_small}
use Rattle.window.proofs.Listing.{listed_lengths}

-- the whole board
abbrev pub IsWhole : ℕ → Spot → Type 0
IsWhole h s = (s.left ≡ h) × (s.group.0 ≡ 0) × (s.row ≡ 0) × (s.column ≡ 0)

-- as the code makes it
pub whole_is : (h : ℕ) (g : GroupNo) → g.0 ≡ 0 → IsWhole h (record { left = h; group = g; row = 0; column = 0 })
whole_is h g e = (refl, e, refl, refl)

-- the rest of a list of zeros
drop_zeros : (n k : ℕ) → drop {A = ℕ} k (replicate n 0) ≡ replicate (n - k) 0
drop_zeros n zero = let e : n - 0 ≡ n = omega arith in rw e
drop_zeros zero (suc k) = let e : 0 - suc k ≡ 0 = omega arith in rw e
drop_zeros (suc n) (suc k) = let e : suc n - suc k ≡ n - k = omega arith in rw e (drop_zeros n k)

-- zeros with a list written at their beginning
padded : (n : ℕ) (l xs : List ℕ) → l ≡ replicate n 0 → length xs ≤ n → sets l 0 xs ≡ xs ++ replicate (n - length xs) 0
padded n l xs e h = rw e (sets-eq xs (replicate n 0) 0 (rw (length-replicate, zero-add) h) ∙ rw (zero-add, drop_zeros n (length xs)))

-- a list that was cleared
pub cleared : (l l' : List ℕ) → l' ≡ replicate (length l) 0 → (l' ≡ replicate (length l') 0) × (length l' ≡ length l)
cleared l l' e = let n : length l' ≡ length l = ap length e ∙ length-replicate {A = ℕ} (length l) 0 in (rw n e, n)

-- there is room
pub roomed_yes : (n rows columns : ℕ) → n ≤ rows → n ≤ columns → roomed n rows columns ≡ Served n
unfolding roomed
roomed_yes n rows columns a b = rw (le-leb n rows a, le-leb n columns b)

-- there is none in the row list
pub roomed_rows : (n rows columns : ℕ) → rows < n → roomed n rows columns ≡ Refused 9
unfolding roomed
roomed_rows n rows columns a = rw (lt-leb n rows a)

-- or none in the column list
pub roomed_columns : (n rows columns : ℕ) → n ≤ rows → columns < n → roomed n rows columns ≡ Refused 9
unfolding roomed
roomed_columns n rows columns a b = rw (le-leb n rows a, lt-leb n columns b)

-- a refusal with both lists cleared
pub shown_refused : (a : Answer ℕ) (cells : List Box) (r : Result ℕ Refusal) (n : ℕ) (rows rows' columns columns' : List ℕ) → a ≡ Refused n → window_numbers r ≡ Refused n
    → rows' ≡ replicate (length rows) 0 → columns' ≡ replicate (length columns) 0 → Shown a cells r rows rows' columns columns'
unfolding left_in
shown_refused a cells r n rows rows' columns columns' e answer zeros zeros' = record { returned = rw e answer; rows_left = rw e zeros; columns_left = rw e zeros' }

-- lists that are the same show the same
pub shown_same : {a : Answer ℕ} {cells : List Box} {r : Result ℕ Refusal} {rows rows' rows'' columns columns' columns'' : List ℕ}
    → Shown a cells r rows rows' columns columns' → rows'' ≡ rows' → columns'' ≡ columns' → Shown a cells r rows rows'' columns columns''
shown_same s e f = record { returned = s.returned; rows_left = e ∙ s.rows_left; columns_left = f ∙ s.columns_left }

-- an answer with what was found in both lists
pub shown_served : (a : Answer ℕ) (cells : List Box) (n : ℕ) (rows rows' columns columns' : List ℕ) → a ≡ Served n
    → rows ≡ replicate (length rows) 0 → columns ≡ replicate (length columns) 0 → length cells ≤ length rows → length cells ≤ length columns
    → rows' ≡ sets rows 0 (map row_of cells) → columns' ≡ sets columns 0 (map column_of cells) → Shown a cells (Ok n) rows rows' columns columns'
unfolding left_in
shown_served a cells n rows rows' columns columns' e zeros zeros' few few' i i' = record {
  returned = rw e refl;
  rows_left = rw e (i ∙ padded (length rows) rows (map row_of cells) zeros (rw length-map few));
  columns_left = rw e (i' ∙ padded (length columns) columns (map column_of cells) zeros' (rw length-map few'));
}

-- ends that cross do not fit
pub ends_crossed : (h lowest highest : ℕ) → highest < lowest → ends_fit h lowest highest ≡ false
unfolding ends_fit
ends_crossed h lowest highest less = rw (lt-leb lowest highest less) (test_cases (ltb lowest (2 ^ h) && ltb highest (2 ^ h)) (λ e. rw e) (λ e. rw e))

-- others fit where the highest is on the board
pub ends_in_order : (h lowest highest : ℕ) → lowest ≤ highest → ends_fit h lowest highest ≡ ltb highest (2 ^ h)
unfolding ends_fit
ends_in_order h lowest highest le =
    rw (le-leb lowest highest le)
    (ltb_cases highest (2 ^ h) (λ k e. rw (e, lt-ltb lowest (2 ^ h) (omega arith))) (λ k e. rw e (test_cases (ltb lowest (2 ^ h)) (λ f. rw f) (λ f. rw f))))

-- an end that fits is small
pub ends_small : (h lowest highest : ℕ) → h ≤ max_height → ends_fit h lowest highest ≡ true → highest < 2 ^ 30
unfolding ends_fit
ends_small h lowest highest low e =
    let on = (both (ltb lowest (2 ^ h) && ltb highest (2 ^ h)) (leb lowest highest) e).0 in
    let less = ltb-true highest (2 ^ h) (both (ltb lowest (2 ^ h)) (ltb highest (2 ^ h)) on).1 in
    omega (arith, less, pow-le-pow_right {n = 2} (omega arith) {i = h} {j = max_height} low, side_small)

-- tests that agree keep the same
keep_same : {A : Type 0} (p q : A → Bool) → ((a : A) → p a ≡ q a) → (l : List A) → keep p l ≡ keep q l
unfolding keep
keep_same p q e [] = refl
keep_same p q e (x ∷ xs) = rw (e x, keep_same p q e xs)

-- the closed window keeps what its raised spans keep
pub found_raised : (w : Window) (h : ℕ) (bytes : List ℕ) → found w h bytes ≡ keep (within (raised w)) (joints h bytes)
unfolding found
found_raised w h bytes = keep_same (inside w) (within (raised w)) (inside_raised w) (joints h bytes)

module _ (h : ℕ) (bytes d : List ℕ) (s : Spot) (i : IsWhole h s) where
  -- it is a box of the board
  pub whole_stood : Ready h bytes d → StoodOn bytes s
  whole_stood r =
      let none : h - s.left ≡ 0 = omega (arith, i.0) in
      record { height = h; ready = rw r.ranked at r; tall = omega (arith, i.0); stands = rw (none, i.1, i.2, i.3) (stands_root bytes) }

  -- under it are the board's joints
  pub whole_under : under_spot bytes s ≡ joints h bytes
  whole_under = rw (i.0, i.1, i.2, i.3) (sym (joints_under_lem bytes h))

  -- which can be counted
  pub whole_room : Ready h bytes d → 0 + length (under_spot bytes s) < 2 ^ 32
  unfolding max_joints
  whole_room r = rw whole_under (omega (arith, r.few))

-- the whole board listed into two lists of zeros
module _ (p : Pane) (h : ℕ) (bytes d : List ℕ) (s : Spot) (i : IsWhole h s) (r : ℕ) (rows rows' columns columns' : List ℕ)
    (l : Listed p (under_spot bytes s) 0 r rows rows' columns columns') where
  -- what is in the pane
  abbrev cells : List Box
  cells = keep (within p) (joints h bytes)

  -- the listing of all joints
  whole_listed : Listed p (joints h bytes) 0 r rows rows' columns columns'
  whole_listed = rw (whole_under h bytes d s i) at l

  -- with room for all of them
  pub pane_served : rows ≡ replicate (length rows) 0 → columns ≡ replicate (length columns) 0 → r ≤ length rows' → r ≤ length columns'
      → Shown (roomed (length cells) (length rows) (length columns)) cells (Ok r) rows rows' columns columns'
  pane_served zeros zeros' few few' =
      let same = listed_lengths p (joints h bytes) 0 r rows rows' columns columns' whole_listed in
      let n : r ≡ length cells = rw zero-add at whole_listed.count in
      shown_served (roomed (length cells) (length rows) (length columns)) cells r rows rows' columns columns'
      (roomed_yes (length cells) (length rows) (length columns) (omega (arith, same.0)) (omega (arith, same.1)) ∙ ap Served (sym n))
      zeros zeros' (omega (arith, same.0)) (omega (arith, same.1)) whole_listed.rows_are whole_listed.columns_are

  -- without it, when both are cleared
  pub pane_refused : (rows'' columns'' : List ℕ) → rows'' ≡ replicate (length rows') 0 → columns'' ≡ replicate (length columns') 0
      → ((r ≤ length rows') × (length columns' < r)) ⊎ (length rows' < r)
      → Shown (roomed (length cells) (length rows) (length columns)) cells (Err AnswerRoom) rows rows'' columns columns''
  pane_refused rows'' columns'' zeros zeros' short =
      let same = listed_lengths p (joints h bytes) 0 r rows rows' columns columns' whole_listed in
      let n : r ≡ length cells = rw zero-add at whole_listed.count in
      shown_refused (roomed (length cells) (length rows) (length columns)) cells (Err AnswerRoom) 9 rows rows'' columns columns''
      (⊎_elim (λ v. roomed_columns (length cells) (length rows) (length columns) (omega (arith, v.0, same.0)) (omega (arith, v.1, same.1)))
      (λ v. roomed_rows (length cells) (length rows) (length columns) (omega (arith, v, same.0))) short)
      refl (rw same.0 at zeros) (rw same.1 at zeros')

-- what is refused when the board is asked, is refused so
pub window_stays : (h : ℕ) (bytes d : List ℕ) (w : Window) (rows columns : ℕ) {k : ℕ} → asked_of h bytes d ≡ Refused k → window_of h bytes d w rows columns ≡ Refused k
unfolding asked_of window_of
window_stays h bytes d w rows columns e = stays (check_of h bytes) 6 (alike d (directory_of bytes)) _ e

module _ (h : ℕ) (bytes d : List ℕ) (w : Window) (rows columns : ℕ) {x : List ℕ} (e : asked_of h bytes d ≡ Served x) where
  -- ends that do not fit are refused by 12
  pub window_off : window_fits h w ≡ false → window_of h bytes d w rows columns ≡ Refused 12
  unfolding asked_of window_of
  window_off f = goes_on (check_of h bytes) 6 (alike d (directory_of bytes)) _ e ∙ rw f

  -- with ends that do it is the room that decides
  pub window_on : window_fits h w ≡ true → window_of h bytes d w rows columns ≡ roomed (length (found w h bytes)) rows columns
  unfolding asked_of window_of
  window_on f = goes_on (check_of h bytes) 6 (alike d (directory_of bytes)) _ e ∙ rw f

  -- then it is what is shown of its raised spans, into lists that were cleared
  pub window_shown : (r : Result ℕ Refusal) (was was' rows₁ rows' columns₁ columns' : List ℕ) → length was ≡ rows → length was' ≡ columns
      → rows₁ ≡ replicate (length was) 0 → columns₁ ≡ replicate (length was') 0 → window_fits h w ≡ true
      → Shown (roomed (length (keep (within (raised w)) (joints h bytes))) (length rows₁) (length columns₁)) (keep (within (raised w)) (joints h bytes)) r rows₁ rows' columns₁ columns'
      → Shown (window_of h bytes d w rows columns) (found w h bytes) r was rows' was' columns'
  window_shown r was was' rows₁ rows' columns₁ columns' i i' zeros zeros' f x =
      let n : length rows₁ ≡ rows = (cleared was rows₁ zeros).1 ∙ i in
      let n' : length columns₁ ≡ columns = (cleared was' columns₁ zeros').1 ∙ i' in
      record {
        returned = rw (window_on f, found_raised w h bytes) (rw (n, n') at x.returned);
        rows_left = rw (window_on f, found_raised w h bytes, i) (rw (n, n') at x.rows_left);
        columns_left = rw (window_on f, found_raised w h bytes, i') (rw (n, n') at x.columns_left);
      }

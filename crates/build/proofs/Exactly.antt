-- Building gives each of its numbers exactly when the table says, in the order of document 01: 1, 20, 12, 10, 5, 18.
use Prim.Native.Nat.{ℕ, zero, suc, ◌≤◌, ◌<◌}
use mathlib.Core.Bool.{Bool, true, false, ◌&&◌}
use mathlib.Core.Logic.{◌↔◌}
use mathlib.Core.Path.{◌≡◌, refl, sym, ◌∙◌}
use mathlib.Core.List.{List, [], ◌∷◌}
use native.Mathlib.Omega.{arith}
use lib.ListN.{length}
use lib.Dec.{leb, eqb}
use borrow.Author.Tests.{leb-true, leb-false, le-leb, lt-leb, eqb-true, eqb-false, eq-eqb, ne_eqb}
use Rattle.refusal.proofs.Tests.{both}
use Rattle.refusal.specs.Answer.{Answer, Served, Refused, ◌unless◌, ◌then◌}
use Rattle.refusal.proofs.Answers.{not_both, passed}
use Rattle.order.proofs.Cases.{test_cases}
use Rattle.board.specs.Limits.{max_height, max_joints}
use Rattle.board.specs.Levels.{groups}
use Rattle.board.specs.Member.{on_board}
use Rattle.board.specs.Table.{HeightServed}
use Rattle.board.proofs.Tests.{not_passed, height_test, cell_test}
use Rattle.refusal.proofs.Refused.{past_test, by_test}
use Rattle.build.specs.Build.{set_of, bitmap_of}
use Rattle.build.specs.Answers.{cells_of, all_on, given_of, codes_built_of, built_of}
use Rattle.build.specs.Table.{AsLong, OnAt, AllOn, GivenWell}

-- ---- the tests in the table's words

-- every cell is on the board
all_on_lem : (h : ℕ) (rows columns : List ℕ) → AsLong rows columns → all_on h (cells_of rows columns) ≡ true → AllOn h rows columns
unfolding all_on cells_of
all_on_lem h [] columns l e i k = absurd (omega arith)
all_on_lem h (r ∷ rows) [] l e i k = absurd (omega arith)
all_on_lem h (r ∷ rows) (c ∷ columns) l e zero k = (cell_test h r c).0 (both (on_board h r c) _ e).0
all_on_lem h (r ∷ rows) (c ∷ columns) l e (suc i) k = all_on_lem h rows columns (omega arith) (both (on_board h r c) _ e).1 i (omega arith)

on_all : (h : ℕ) (rows columns : List ℕ) → AsLong rows columns → AllOn h rows columns → all_on h (cells_of rows columns) ≡ true
unfolding all_on cells_of
on_all h [] columns l on = refl
on_all h (r ∷ rows) [] l on = absurd (omega arith)
on_all h (r ∷ rows) (c ∷ columns) l on =
    rw ((cell_test h r c).1 (on 0 (omega arith))) (on_all h rows columns (omega arith) (λ i k. on (suc i) (omega arith)))

-- a cell is not
one_off : (h : ℕ) (rows columns : List ℕ) → AsLong rows columns → all_on h (cells_of rows columns) ≡ false → (i : ℕ) × (i < length rows) × (OnAt h rows columns i → ⊥)
unfolding all_on cells_of
one_off h [] columns l e = absurd (let z : ◌≡◌ {A = ℕ} 0 1 = cc in omega arith)
one_off h (r ∷ rows) [] l e = absurd (omega arith)
one_off h (r ∷ rows) (c ∷ columns) l e =
    test_cases (on_board h r c)
    (λ t. let rest = one_off h rows columns (omega arith) (rw t at e) in (suc rest.0, omega (arith, rest.1), rest.2))
    (λ t. (0, omega arith, (not_passed (on_board h r c) (cell_test h r c)).0 t))

off_one : (h : ℕ) (rows columns : List ℕ) → AsLong rows columns → (i : ℕ) × (i < length rows) × (OnAt h rows columns i → ⊥) → all_on h (cells_of rows columns) ≡ false
off_one h rows columns l s =
    test_cases (all_on h (cells_of rows columns)) (λ e. absurd (s.2 (all_on_lem h rows columns l e s.0 s.1))) (λ e. e)

-- ---- the numbers

-- answers in a row, in whichever way they are put together
then_assoc : {A B C : Type 0} (a : Answer A) (b : Answer B) (c : Answer C) → ((a then b) then c) ≡ (a then b then c)
then_assoc (Served x) b c = refl
then_assoc (Refused n) b c = refl

module _ (h : ℕ) (rows columns : List ℕ) (work room : ℕ) where
  -- the tests
  abbrev tall : Bool
  tall = leb 1 h && leb h max_height

  abbrev long : Bool
  long = eqb (length rows) (length columns)

  abbrev on : Bool
  on = all_on h (cells_of rows columns)

  abbrev worked : Bool
  worked = leb (length rows) work

  abbrev few : Bool
  few = leb (length (set_of h (cells_of rows columns))) max_joints

  abbrev roomy : Bool
  roomy = leb (length (bitmap_of h (cells_of rows columns))) room

  -- the joints, the boxes and the length
  abbrev values : List ℕ
  values = length (set_of h (cells_of rows columns)) ∷ groups h (bitmap_of h (cells_of rows columns)) ∷ length (bitmap_of h (cells_of rows columns)) ∷ []

  -- the order of document 01
  pub built_in_order : built_of h rows columns work room ≡
      (1 unless tall then 20 unless long then 12 unless on then 10 unless worked then 5 unless few then 18 unless roomy then Served values)
  unfolding built_of given_of codes_built_of set_of bitmap_of
  built_in_order = rw (then_assoc, then_assoc, then_assoc)

  -- what comes after a test does not give its number
  after_5 : (k : ℕ) → eqb 18 k ≡ false → (18 unless roomy then Served values) ≡ Refused k → ⊥
  after_5 k a e = not_both (sym (past_test 18 k roomy (Served values) a e).1)

  after_10 : (k : ℕ) → eqb 5 k ≡ false → eqb 18 k ≡ false → (5 unless few then 18 unless roomy then Served values) ≡ Refused k → ⊥
  after_10 k a b e = after_5 k b (past_test 5 k few _ a e).1

  after_12 : (k : ℕ) → eqb 10 k ≡ false → eqb 5 k ≡ false → eqb 18 k ≡ false → (10 unless worked then 5 unless few then 18 unless roomy then Served values) ≡ Refused k → ⊥
  after_12 k a b c e = after_10 k b c (past_test 10 k worked _ a e).1

  -- the tests that were passed before another number
  past_1 : (k : ℕ) → eqb 1 k ≡ false → built_of h rows columns work room ≡ Refused k
      → HeightServed h × ((20 unless long then 12 unless on then 10 unless worked then 5 unless few then 18 unless roomy then Served values) ≡ Refused k)
  past_1 k a e = let s = past_test 1 k tall _ a (sym built_in_order ∙ e) in ((height_test h).0 s.0, s.1)

  past_20 : (k : ℕ) → eqb 1 k ≡ false → eqb 20 k ≡ false → built_of h rows columns work room ≡ Refused k
      → HeightServed h × AsLong rows columns × ((12 unless on then 10 unless worked then 5 unless few then 18 unless roomy then Served values) ≡ Refused k)
  past_20 k a b e = let s = past_1 k a e in let t = past_test 20 k long _ b s.1 in (s.0, eqb-true _ _ t.0, t.1)

  past_12 : (k : ℕ) → eqb 1 k ≡ false → eqb 20 k ≡ false → eqb 12 k ≡ false → built_of h rows columns work room ≡ Refused k
      → HeightServed h × AsLong rows columns × AllOn h rows columns × ((10 unless worked then 5 unless few then 18 unless roomy then Served values) ≡ Refused k)
  past_12 k a b c e = let s = past_20 k a b e in let t = past_test 12 k on _ c s.2 in (s.0, s.1, all_on_lem h rows columns s.1 t.0, t.1)

  past_10 : (k : ℕ) → eqb 1 k ≡ false → eqb 20 k ≡ false → eqb 12 k ≡ false → eqb 10 k ≡ false → built_of h rows columns work room ≡ Refused k
      → GivenWell h rows columns work × ((5 unless few then 18 unless roomy then Served values) ≡ Refused k)
  past_10 k a b c d e = let s = past_12 k a b c e in let t = past_test 10 k worked _ d s.3 in ((s.0, s.1, s.2, leb-true _ _ t.0), t.1)

  -- 1: the height is not 1 to 10
  pub build_1 : (built_of h rows columns work room ≡ Refused 1) ↔ (HeightServed h → ⊥)
  build_1 =
      let wrong = not_passed tall (height_test h) in
      ((λ e. wrong.0 (by_test 1 tall _ (λ f. after_12 1 refl refl refl (past_test 12 1 on _ refl (past_test 20 1 long _ refl f).1).1) (sym built_in_order ∙ e))), λ n. built_in_order ∙ rw (wrong.1 n))

  -- 20: row list and column list of unequal length
  pub build_20 : (built_of h rows columns work room ≡ Refused 20) ↔ (HeightServed h × (AsLong rows columns → ⊥))
  build_20 = (
    (λ e. let s = past_1 20 refl e in
        (s.0, eqb-false _ _ (by_test 20 long _ (λ f. after_12 20 refl refl refl (past_test 12 20 on _ refl f).1) s.1))),
    λ s. built_in_order ∙ rw ((height_test h).1 s.0, ne_eqb _ _ s.1),
  )

  -- 12: a cell that is not on the board
  pub build_12 : (built_of h rows columns work room ≡ Refused 12) ↔ (HeightServed h × AsLong rows columns × (i : ℕ) × (i < length rows) × (OnAt h rows columns i → ⊥))
  build_12 = (
    (λ e. let s = past_20 12 refl refl e in
        let off = one_off h rows columns s.1 (by_test 12 on _ (after_12 12 refl refl refl) s.2) in
        (s.0, s.1, off.0, off.1, off.2)),
    λ s. built_in_order ∙ rw ((height_test h).1 s.0, eq-eqb _ _ s.1, off_one h rows columns s.1 (s.2, s.3, s.4)),
  )

  -- 10: a work list shorter than the cells given
  pub build_10 : (built_of h rows columns work room ≡ Refused 10) ↔ (HeightServed h × AsLong rows columns × AllOn h rows columns × (work < length rows))
  build_10 = (
    (λ e. let s = past_12 10 refl refl refl e in (s.0, s.1, s.2, leb-false _ _ (by_test 10 worked _ (after_10 10 refl refl) s.3))),
    λ s. built_in_order ∙ rw ((height_test h).1 s.0, eq-eqb _ _ s.1, on_all h rows columns s.1 s.2, lt-leb _ _ s.3),
  )

  -- what is given well goes by the joints
  given_well : GivenWell h rows columns work → built_of h rows columns work room ≡ (5 unless few then 18 unless roomy then Served values)
  given_well s = built_in_order ∙ rw ((height_test h).1 s.0, eq-eqb _ _ s.1, on_all h rows columns s.1 s.2, le-leb _ _ s.3)

  -- 5: more than 4,096 distinct joints
  pub build_5 : (built_of h rows columns work room ≡ Refused 5) ↔ (GivenWell h rows columns work × (max_joints < length (set_of h (cells_of rows columns))))
  build_5 = (
    (λ e. let s = past_10 5 refl refl refl refl e in (s.0, leb-false _ _ (by_test 5 few _ (after_5 5 refl) s.1))),
    λ s. given_well s.0 ∙ rw (lt-leb _ _ s.1),
  )

  -- 18: bitmap room too short
  pub build_18 : (built_of h rows columns work room ≡ Refused 18)
      ↔ (GivenWell h rows columns work × (length (set_of h (cells_of rows columns)) ≤ max_joints) × (room < length (bitmap_of h (cells_of rows columns))))
  build_18 = (
    (λ e. let s = past_10 18 refl refl refl refl e in
        let t = past_test 5 18 few _ refl s.1 in
        (s.0, leb-true _ _ t.0, leb-false _ _ (by_test 18 roomy _ (λ f. not_both (sym f)) t.1))),
    λ s. given_well s.0 ∙ rw (le-leb _ _ s.1, lt-leb _ _ s.2),
  )

  -- served: nothing refuses; the joints, the boxes and the bitmap's length
  pub build_served : (v : List ℕ) → (built_of h rows columns work room ≡ Served v)
      ↔ (GivenWell h rows columns work × (length (set_of h (cells_of rows columns)) ≤ max_joints) × (length (bitmap_of h (cells_of rows columns)) ≤ room) × (values ≡ v))
  build_served v = (served, λ s. given_well s.0 ∙ rw (le-leb _ _ s.1, le-leb _ _ s.2, s.3))
    where
      served : built_of h rows columns work room ≡ Served v
          → GivenWell h rows columns work × (length (set_of h (cells_of rows columns)) ≤ max_joints) × (length (bitmap_of h (cells_of rows columns)) ≤ room) × (values ≡ v)
      served e =
          let a = passed 1 tall _ (sym built_in_order ∙ e) in
          let b = passed 20 long _ a.1 in
          let c = passed 12 on _ b.1 in
          let d = passed 10 worked _ c.1 in
          let j = passed 5 few _ d.1 in
          let r = passed 18 roomy (Served values) j.1 in
          let same : length rows ≡ length columns = eqb-true _ _ b.0 in
          (((height_test h).0 a.0, same, all_on_lem h rows columns same c.0, leb-true _ _ d.0), leb-true _ _ j.0, leb-true _ _ r.0, cc r.1)

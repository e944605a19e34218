-- A record is refused by each of its numbers exactly when the table says: 14, 15, 16, and of its body 1, 13 or 12.
use Prim.Native.Nat.{ℕ, ◌+◌, ◌≤◌}
use mathlib.Core.Bool.{Bool, true, false, ◌&&◌}
use mathlib.Core.Logic.{◌↔◌, inl, inr}
use mathlib.Core.Path.{◌≡◌, refl, sym, ◌∙◌}
use mathlib.Core.List.{List}
use native.Mathlib.Omega.{arith}
use lib.ListN.{length, get_or, drop}
use lib.Dec.{leb, eqb}
use borrow.Author.Tests.{leb-true, leb-false, le-leb, eqb-false, ne_eqb, ltb-true, lt-ltb}
use Rattle.refusal.proofs.Tests.{both, fails}
use Rattle.refusal.specs.Answer.{Answer, Served, Refused, ◌unless◌, ◌then◌, ◌into◌}
use Rattle.refusal.proofs.Answers.{not_both}
use Rattle.order.proofs.Cases.{test_cases}
use Rattle.measure.proofs.Exact.{read_refuses, read_marked_refuses}
use Rattle.board.specs.Limits.{max_height}
use Rattle.board.specs.Member.{on_board}
use Rattle.board.specs.Table.{HeightServed, CellOn}
use Rattle.refusal.proofs.Refused.{past_test, by_test}
use Rattle.records.specs.declared.kind.Kind.{Kind}
use Rattle.records.specs.declared.kind.Kind.TheVariants.{Board, Joint, Question, Window, End}
use Rattle.records.specs.declared.kind.Stage.{Stage}
use Rattle.records.specs.declared.record.Record.{Record}
use Rattle.records.specs.declared.record.Record.TheVariants.{Joint as JointAt}
use Rattle.records.specs.Kinds.{kind_of, body_length, in_place}
use Rattle.records.specs.Records.{measure_at, marked_at, body_of, record_at}
use Rattle.sheet.specs.Table.{UnknownKind, OutOfPlace, CutShort, WholeBody, NoMeasure, NoMarked, NotMeasures, JointOff, HeightOff}
use Rattle.records.proofs.Recording.{no_kind, out_of_place, cut_short, by_body}
use Rattle.sheet.proofs.Refusals.{of_body, by_body_of, by_kind}

-- ---- a kind

-- 14: the byte is not 1 to 5
kind_14 : (b : ℕ) → (kind_of b ≡ Refused 14) ↔ UnknownKind b
unfolding kind_of
kind_14 b = (known, unknown)
  where
    known : kind_of b ≡ Refused 14 → UnknownKind b
    known e w =
        test_cases (eqb b 1) (λ f. not_both (sym (rw f at e)))
        (λ f₁. test_cases (eqb b 2) (λ f. not_both (sym (rw (f₁, f) at e)))
        (λ f₂. test_cases (eqb b 3) (λ f. not_both (sym (rw (f₁, f₂, f) at e)))
        (λ f₃. test_cases (eqb b 4) (λ f. not_both (sym (rw (f₁, f₂, f₃, f) at e)))
        (λ f₄. test_cases (eqb b 5) (λ f. not_both (sym (rw (f₁, f₂, f₃, f₄, f) at e)))
        (λ f₅. omega (arith, eqb-false b 1 f₁, eqb-false b 2 f₂, eqb-false b 3 f₃, eqb-false b 4 f₄, eqb-false b 5 f₅))))))

    other : UnknownKind b → (k : ℕ) → 1 ≤ k → k ≤ 5 → eqb b k ≡ false
    other u k low high = ne_eqb b k (λ e. u (omega arith, omega arith))

    unknown : UnknownKind b → kind_of b ≡ Refused 14
    unknown u =
        rw (other u 1 (omega arith) (omega arith), other u 2 (omega arith) (omega arith), other u 3 (omega arith) (omega arith), other u 4 (omega arith) (omega arith), other u 5 (omega arith) (omega arith))

-- ---- a body

-- what is refused in the end was refused at first, or by what is said of what was served
into_refused : {A B P : Type 0} (a : Answer A) (f : A → Answer B) {n : ℕ} → (a into f) ≡ Refused n → (a ≡ Refused n → P) → ((x : A) → a ≡ Served x → f x ≡ Refused n → P) → P
into_refused (Served x) f e first later = later x refl e
into_refused (Refused k) f {n} e first later = let same : k ≡ n = cc in first (rw same)

-- an answer that is refused by 13 alone, and then 13 whatever it serves
or_later : {A B : Type 0} (a : Answer A) (f : A → Answer B) → ((k : ℕ) → a ≡ Refused k → k ≡ 13) → ((x : A) → f x ≡ Refused 13) → (a into f) ≡ Refused 13
or_later (Served x) f only later = later x
or_later (Refused k) f only later = let same = only k refl in rw same

-- 13: a measure, and a marked one
no_measure : (body : List ℕ) (at : ℕ) → (measure_at body at ≡ Refused 13) ↔ NoMeasure body at
no_measure body at = (λ e. ((read_refuses _ 13).0 e).1, λ w. (read_refuses _ 13).1 (refl, w))

no_marked : (body : List ℕ) (at : ℕ) → (marked_at body at ≡ Refused 13) ↔ NoMarked body at
no_marked body at = (λ e. ((read_marked_refuses _ 13).0 e).1, λ w. (read_marked_refuses _ 13).1 (refl, w))

only_measure : (body : List ℕ) (at k : ℕ) → measure_at body at ≡ Refused k → k ≡ 13
only_measure body at k e = ((read_refuses _ k).0 e).0

only_marked : (body : List ℕ) (at k : ℕ) → marked_at body at ≡ Refused k → k ≡ 13
only_marked body at k e = ((read_marked_refuses _ k).0 e).0

-- a cell is on the board
on_board_lem : (h r c : ℕ) → (on_board h r c ≡ true) ↔ CellOn h r c
unfolding on_board
on_board_lem h r c = (λ e. let t = both _ _ e in (ltb-true r _ t.0, ltb-true c _ t.1), λ on. rw (lt-ltb r _ on.0, lt-ltb c _ on.1))

-- a test that says so fails where it is not so
not_so : {P : Type 0} (t : Bool) → (t ≡ true) ↔ P → (t ≡ false) ↔ (P → ⊥)
not_so true so = (λ e p. fails (sym e), λ n. absurd (n (so.0 refl)))
not_so false so = (λ e p. fails (so.1 p), λ n. refl)

-- the height of a board is served
height_on : (h : ℕ) → (leb 1 h && leb h max_height ≡ true) ↔ HeightServed h
height_on h = (λ e. let t = both _ _ e in (leb-true 1 h t.0, leb-true h max_height t.1), λ s. rw (le-leb 1 h s.0, le-leb h max_height s.1))

-- 1: of a board record
pub body_1 : (h : ℕ) (kind : Kind) (body : List ℕ) → (body_of h kind body ≡ Refused 1) ↔ HeightOff kind body
unfolding body_of
body_1 h kind body = (off kind, λ w. let same = w.0 in rw same (high w.1))
  where
    high : (HeightServed (get_or body 0 0) → ⊥) → body_of h Board body ≡ Refused 1
    high n = rw ((not_so _ (height_on (get_or body 0 0))).1 n)

    off : (kind : Kind) → body_of h kind body ≡ Refused 1 → HeightOff kind body
    off Board e = (refl, (not_so _ (height_on (get_or body 0 0))).0 (by_test 1 _ _ (λ f. not_both (sym f)) e))
    off Joint e = fails (by_body_of 1 h Joint body e)
    off Question e = fails (by_body_of 1 h Question body e)
    off Window e = fails (by_body_of 1 h Window body e)
    off End e = fails (by_body_of 1 h End body e)

-- 12: of a joint whose measures are right
pub body_12 : (h : ℕ) (kind : Kind) (body : List ℕ) → (body_of h kind body ≡ Refused 12) ↔ JointOff h kind body
unfolding body_of
body_12 h kind body = (off kind, λ w. let same = w.0 in rw same (cell w.1 w.2 w.3 w.4 w.5))
  where
    cell : (row column : ℕ) → measure_at body 0 ≡ Served row → measure_at body 5 ≡ Served column → (CellOn h row column → ⊥) → body_of h Joint body ≡ Refused 12
    cell row column r c n = rw (r, c, (not_so _ (on_board_lem h row column)).1 n)

    none : {P : Type 0} (at : ℕ) → measure_at body at ≡ Refused 12 → P
    none at e = absurd (omega (arith, only_measure body at 12 e))

    off : (kind : Kind) → body_of h kind body ≡ Refused 12 → JointOff h kind body
    off Board e = fails (by_body_of 12 h Board body e)
    off Joint e =
        into_refused (measure_at body 0) _ e (none 0) λ row r e₁.
        into_refused (measure_at body 5) _ e₁ (none 5) λ column c e₂.
        (refl, row, column, r, c, (not_so _ (on_board_lem h row column)).0 (by_test 12 _ (Served (JointAt row column)) (λ f. not_both (sym f)) e₂))
    off Question e = fails (by_body_of 12 h Question body e)
    off Window e = fails (by_body_of 12 h Window body e)
    off End e = fails (by_body_of 12 h End body e)

-- 13: of a joint, a question or a window
pub body_13 : (h : ℕ) (kind : Kind) (body : List ℕ) → (body_of h kind body ≡ Refused 13) ↔ NotMeasures kind body
unfolding body_of
body_13 h kind body = (bad kind, refused kind)
  where
    bad : (kind : Kind) → body_of h kind body ≡ Refused 13 → NotMeasures kind body
    bad Board e = fails (by_body_of 13 h Board body e)
    bad Joint e =
        into_refused (measure_at body 0) _ e (λ f. inl ((no_measure body 0).0 f)) λ row _ e₁.
        into_refused (measure_at body 5) _ e₁ (λ f. inr ((no_measure body 5).0 f)) λ column _ e₂.
        absurd (not_both (sym (past_test 12 13 (on_board h row column) (Served (JointAt row column)) refl e₂).1))
    bad Question e =
        into_refused (marked_at body 1) _ e (λ f. inl ((no_marked body 1).0 f)) λ row _ e₁.
        into_refused (marked_at body 7) _ e₁ (λ f. inr ((no_marked body 7).0 f)) λ column _ e₂. absurd (not_both (sym e₂))
    bad Window e =
        into_refused (measure_at body 0) _ e (λ f. inl ((no_measure body 0).0 f)) λ a _ e₁.
        into_refused (measure_at body 5) _ e₁ (λ f. inr (inl ((no_measure body 5).0 f))) λ b _ e₂.
        into_refused (measure_at body 10) _ e₂ (λ f. inr (inr (inl ((no_measure body 10).0 f)))) λ c _ e₃.
        into_refused (measure_at body 15) _ e₃ (λ f. inr (inr (inr ((no_measure body 15).0 f)))) λ d _ e₄. absurd (not_both (sym e₄))
    bad End e = absurd (not_both (sym e))

    first_13 : {A B : Type 0} (a : Answer A) (f : A → Answer B) → a ≡ Refused 13 → (a into f) ≡ Refused 13
    first_13 a f e = rw e

    refused : (kind : Kind) → NotMeasures kind body → body_of h kind body ≡ Refused 13
    refused Board w = absurd w
    refused Joint (inl w) = first_13 _ _ ((no_measure body 0).1 w)
    refused Joint (inr w) = or_later (measure_at body 0) _ (only_measure body 0) λ _. first_13 _ _ ((no_measure body 5).1 w)
    refused Question (inl w) = first_13 _ _ ((no_marked body 1).1 w)
    refused Question (inr w) = or_later (marked_at body 1) _ (only_marked body 1) λ _. first_13 _ _ ((no_marked body 7).1 w)
    refused Window (inl w) = first_13 _ _ ((no_measure body 0).1 w)
    refused Window (inr (inl w)) = or_later (measure_at body 0) _ (only_measure body 0) λ _. first_13 _ _ ((no_measure body 5).1 w)
    refused Window (inr (inr (inl w))) =
        or_later (measure_at body 0) _ (only_measure body 0) λ _. or_later (measure_at body 5) _ (only_measure body 5) λ _. first_13 _ _ ((no_measure body 10).1 w)
    refused Window (inr (inr (inr w))) =
        or_later (measure_at body 0) _ (only_measure body 0) λ _. or_later (measure_at body 5) _ (only_measure body 5) λ _. or_later (measure_at body 10) _ (only_measure body 10) λ _.
        first_13 _ _ ((no_measure body 15).1 w)
    refused End w = absurd w

-- ---- a record

module _ (stage : Stage) (h : ℕ) (sheet : List ℕ) (at : ℕ) where
  abbrev body : List ℕ
  body = drop (at + 1) sheet

  -- by another number no body is refused
  body_never : (n : ℕ) → eqb n 1 ≡ false → eqb n 13 ≡ false → eqb n 12 ≡ false → (kind : Kind) → body_of h kind body ≡ Refused n → ⊥
  body_never n a b c kind e = fails (sym (none kind) ∙ by_body_of n h kind body e)
    where
      none : (kind : Kind) → of_body kind n ≡ false
      none Board = a
      none Joint = rw (b, c)
      none Question = b
      none Window = b
      none End = refl

  -- the tests after the kind
  abbrev whole : Kind → Bool
  whole kind = leb (at + 1 + body_length kind) (length sheet)

  abbrev tests : Kind → Answer Record
  tests kind = 15 unless in_place stage kind then 16 unless whole kind then body_of h kind body

  pub record_14 : (record_at stage h sheet at ≡ Refused 14) ↔ UnknownKind (get_or sheet at 0)
  unfolding record_at
  record_14 = (
    λ e. into_refused (kind_of (get_or sheet at 0)) tests e (λ f. (kind_14 _).0 f) λ kind _ f.
        let rest = (past_test 16 14 (whole kind) (body_of h kind body) refl (past_test 15 14 (in_place stage kind) (16 unless whole kind then body_of h kind body) refl f).1).1 in
        absurd (body_never 14 refl refl refl kind rest),
    λ u. no_kind stage h sheet at ((kind_14 _).1 u),
  )

  -- by another number than 14 the kind is known
  past_kind : {P : Type 0} (n : ℕ) → eqb 14 n ≡ false → record_at stage h sheet at ≡ Refused n → ((kind : Kind) → kind_of (get_or sheet at 0) ≡ Served kind → tests kind ≡ Refused n → P) → P
  unfolding record_at
  past_kind n d e go = into_refused (kind_of (get_or sheet at 0)) tests e (λ f. absurd (eqb-false 14 n d (sym (by_kind n _ f)))) go

  pub record_15 : (record_at stage h sheet at ≡ Refused 15) ↔ OutOfPlace sheet at stage
  record_15 = (
    λ e. past_kind 15 refl e λ kind known f. (kind, known, by_test 15 (in_place stage kind) (16 unless whole kind then body_of h kind body) (λ g. body_never 15 refl refl refl kind (past_test 16 15 (whole kind) (body_of h kind body) refl g).1) f),
    λ w. out_of_place stage h sheet at w.0 w.1 w.2,
  )

  pub record_16 : (record_at stage h sheet at ≡ Refused 16) ↔ CutShort sheet at stage
  record_16 = (
    λ e. past_kind 16 refl e λ kind known f.
        let placed = past_test 15 16 (in_place stage kind) (16 unless whole kind then body_of h kind body) refl f in
        (kind, known, placed.0, leb-false (at + 1 + body_length kind) (length sheet) (by_test 16 (whole kind) (body_of h kind body) (body_never 16 refl refl refl kind) placed.1)),
    λ w. cut_short stage h sheet at w.0 w.1 w.2 w.3,
  )

  -- by another number it is the body's
  pub record_body : (n : ℕ) → eqb 14 n ≡ false → eqb 15 n ≡ false → eqb 16 n ≡ false → (So : Kind → List ℕ → Type 0) → ((kind : Kind) → (body_of h kind body ≡ Refused n) ↔ So kind body)
      → (record_at stage h sheet at ≡ Refused n) ↔ WholeBody sheet at stage So
  record_body n a b c So so = (
    λ e. past_kind n a e λ kind known f.
        let placed = past_test 15 n (in_place stage kind) (16 unless whole kind then body_of h kind body) b f in
        let long = past_test 16 n (whole kind) (body_of h kind body) c placed.1 in
        (kind, known, placed.0, leb-true (at + 1 + body_length kind) (length sheet) long.0, (so kind).0 long.1),
    λ w. by_body stage h sheet at w.0 w.1 w.2 w.3 ∙ (so w.0).1 w.4,
  )

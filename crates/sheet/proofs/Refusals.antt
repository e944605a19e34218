-- The numbers that refuse a record and a sheet's records; 10 and 18 are said of the room alone, and with the program's room they never are.
use Prim.Native.Nat.{ℕ, ◌+◌, ◌≤◌, ◌<◌}
use mathlib.Core.Bool.{Bool, true, false, ◌&&◌, ◌||◌, cond}
use mathlib.Core.Path.{◌≡◌, refl, sym, ◌∙◌}
use mathlib.Core.List.{List}
use native.Mathlib.Omega.{arith}
use lib.ListN.{length, get_or, drop}
use lib.Dec.{leb, eqb}
use borrow.Author.Tests.{eqb-true, leb-true, leb-false, lt-leb}
use Rattle.refusal.proofs.Tests.{fails}
use Rattle.refusal.specs.Answer.{Answer, Served, Refused, ◌unless◌, ◌then◌, ◌into◌}
use Rattle.refusal.proofs.Answers.{not_both, same_number}
use Rattle.measure.specs.Measure.{read_of, read_marked_of}
use Rattle.measure.proofs.Exact.{read_refuses, read_marked_refuses}
use Rattle.order.proofs.Cases.{leb_cases}
use Rattle.board.specs.Limits.{max_height, max_joints}
use Rattle.build.specs.Build.{set_of}
use Rattle.board.specs.Member.{on_board}
use Rattle.records.specs.declared.kind.Kind.{Kind}
use Rattle.records.specs.declared.kind.Kind.TheVariants.{Board, Joint, Question, Window, End}
use Rattle.records.specs.declared.kind.Stage.{Stage}
use Rattle.records.specs.declared.record.Record.{Record}
use Rattle.records.specs.Kinds.{kind_of, body_length, in_place}
use Rattle.records.specs.Records.{measure_at, marked_at, body_of, record_at}
use Rattle.sheet.specs.Sheet.{Verdict, Accepted, RefusedAt, sheet_of, max_sheet, max_records, max_bytes, height_in, cells_in}
use Rattle.sheet.specs.Promise.{read_of as readSheet}
use Rattle.sheet.specs.Table.{Fault, wrong, no_end, bytes_after}
use Rattle.sheet.proofs.Faults.{sheet_faults}
use Rattle.sheet.proofs.Shape.{not_accepted}
use Rattle.sheet.proofs.Theorems.{joint_records, room_enough, too_many}

-- the numbers that refuse a body of each kind
abbrev pub of_body : Kind → ℕ → Bool
of_body Board n = eqb n 1
of_body Joint n = eqb n 13 || eqb n 12
of_body Question n = eqb n 13
of_body Window n = eqb n 13
of_body End n = false

-- those of a record, and those of a sheet's records
abbrev pub of_record : ℕ → Bool
of_record n = eqb n 14 || (eqb n 15 || (eqb n 16 || (eqb n 1 || (eqb n 13 || eqb n 12))))

abbrev pub of_sheet : ℕ → Bool
of_sheet n = of_record n || (eqb n 17 || eqb n 19)

-- so of the number: by a test, or by the rest
by_test : {A : Type 0} (so : ℕ → Bool) (k n : ℕ) (t : Bool) (rest : Answer A) → so k ≡ true → (rest ≡ Refused n → so n ≡ true) → (k unless t then rest) ≡ Refused n → so n ≡ true
by_test so k n true rest here later e = later e
by_test so k n false rest here later e = let same : k ≡ n = cc in rw same at here

-- by the first answer, or by what is said of it
by_first : {A B : Type 0} (so : ℕ → Bool) (n : ℕ) (a : Answer A) (f : A → Answer B) → (a ≡ Refused n → so n ≡ true) → ((x : A) → f x ≡ Refused n → so n ≡ true) → (a into f) ≡ Refused n → so n ≡ true
by_first so n (Served x) f here later e = later x e
by_first so n (Refused k) f here later e = let same : k ≡ n = cc in here (rw same)

-- nothing is refused
served_not : {A P : Type 0} {x : A} {n : ℕ} → Served x ≡ Refused n → P
served_not e = absurd (not_both (sym e))

-- a measure is refused by 13 alone
by_measure : (so : ℕ → Bool) (n : ℕ) (t : List ℕ) → so 13 ≡ true → read_of t ≡ Refused n → so n ≡ true
by_measure so n t here e = let same = ((read_refuses t n).0 e).0 in rw same here

by_marked : (so : ℕ → Bool) (n : ℕ) (t : List ℕ) → so 13 ≡ true → read_marked_of t ≡ Refused n → so n ≡ true
by_marked so n t here e = let same = ((read_marked_refuses t n).0 e).0 in rw same here

-- a body by 1, 13 or 12
pub by_body_of : (n h : ℕ) (kind : Kind) (body : List ℕ) → body_of h kind body ≡ Refused n → of_body kind n ≡ true
unfolding body_of
by_body_of n h Board body = by_test (of_body Board) 1 n (leb 1 (get_or body 0 0) && leb (get_or body 0 0) max_height) _ refl served_not
by_body_of n h Joint body =
    let so = of_body Joint in
    by_first so n (measure_at body 0) _ (by_measure so n _ refl) λ row.
    by_first so n (measure_at body 5) _ (by_measure so n _ refl) λ column.
    by_test so 12 n (on_board h row column) _ refl served_not
by_body_of n h Question body =
    let so = of_body Question in
    by_first so n (marked_at body 1) _ (by_marked so n _ refl) λ row. by_first so n (marked_at body 7) _ (by_marked so n _ refl) λ column. served_not
by_body_of n h Window body =
    let so = of_body Window in
    by_first so n (measure_at body 0) _ (by_measure so n _ refl) λ a. by_first so n (measure_at body 5) _ (by_measure so n _ refl) λ b.
    by_first so n (measure_at body 10) _ (by_measure so n _ refl) λ c. by_first so n (measure_at body 15) _ (by_measure so n _ refl) λ d. served_not
by_body_of n h End body = served_not

-- each of these is a number of a record
of_body_lem : (kind : Kind) (n : ℕ) → of_body kind n ≡ true → of_record n ≡ true
of_body_lem Board n e = let same = eqb-true n 1 e in rw same
of_body_lem Joint n e = by-or (eqb n 13) (eqb n 12) (λ f. let same = eqb-true n 13 f in rw same) (λ f. let same = eqb-true n 12 f in rw same) e
  where
    by-or : {P : Type 0} (s t : Bool) → (s ≡ true → P) → (t ≡ true → P) → s || t ≡ true → P
    by-or true t f g e = f refl
    by-or false t f g e = g e
of_body_lem Question n e = let same = eqb-true n 13 e in rw same
of_body_lem Window n e = let same = eqb-true n 13 e in rw same
of_body_lem End n e = fails e

-- a kind by 14
pub by_kind : (n b : ℕ) → kind_of b ≡ Refused n → n ≡ 14
unfolding kind_of
by_kind n b = by_tests (eqb b 1) (eqb b 2) (eqb b 3) (eqb b 4) (eqb b 5)
  where
    by_tests : (p q r s t : Bool) → cond p (Served Board) (cond q (Served Joint) (cond r (Served Question) (cond s (Served Window) (cond t (Served End) (Refused 14))))) ≡ Refused n → n ≡ 14
    by_tests true q r s t e = absurd (not_both (sym e))
    by_tests false true r s t e = absurd (not_both (sym e))
    by_tests false false true s t e = absurd (not_both (sym e))
    by_tests false false false true t e = absurd (not_both (sym e))
    by_tests false false false false true e = absurd (not_both (sym e))
    by_tests false false false false false e = sym (same_number e)

-- a record by these, 15 or 16
pub by_record : (n : ℕ) (stage : Stage) (h : ℕ) (sheet : List ℕ) (at : ℕ) → record_at stage h sheet at ≡ Refused n → of_record n ≡ true
unfolding record_at
by_record n stage h sheet at =
    by_first of_record n (kind_of (get_or sheet at 0)) _ (λ e. let same = by_kind n (get_or sheet at 0) e in rw same) λ kind.
    by_test of_record 15 n (in_place stage kind) _ refl
    (by_test of_record 16 n (leb (at + 1 + body_length kind) (length sheet)) _ refl
    (λ e. of_body_lem kind n (by_body_of n h kind (drop (at + 1) sheet) e)))

-- a sheet that is too long
pub sheet_long : (sheet : List ℕ) → max_sheet < length sheet → sheet_of sheet ≡ RefusedAt 19 0
unfolding sheet_of
sheet_long sheet long = rw (lt-leb (length sheet) max_sheet long)

-- a sheet by these, 17 or 19
pub by_sheet : (n o : ℕ) (sheet : List ℕ) → sheet_of sheet ≡ RefusedAt n o → of_sheet n ≡ true
by_sheet n o sheet e =
    leb_cases (length sheet) max_sheet
    (λ short t. by_fault ((sheet_faults sheet n o short).0 e))
    (λ long t. let f = sheet_long sheet long in let same : 19 ≡ n = cc in rw (← same))
  where
    more : (m : ℕ) → of_record m ≡ true → of_sheet m ≡ true
    more m e = rw e

    by_fault : {m at : ℕ} → Fault sheet m at → of_sheet m ≡ true
    by_fault (wrong {stage = stage} {h = h} {at = at} {n = m} seen lt read) = more m (by_record m stage h sheet at read)
    by_fault (no_end seen) = refl
    by_fault (bytes_after seen read lt) = refl

-- a sheet whose records are refused
pub read_refused_at : (sheet : List ℕ) (work room m at : ℕ) → sheet_of sheet ≡ RefusedAt m at → readSheet sheet work room ≡ RefusedAt m at
unfolding readSheet
read_refused_at sheet work room m at e = rw e

-- with room for 5,957 codes and 8,875 bytes no sheet is refused by 10 or 18
pub never_room : (sheet : List ℕ) (work room n o : ℕ) → max_records ≤ work → max_bytes ≤ room → readSheet sheet work room ≡ RefusedAt n o → (n ≡ 10 → ⊥) × (n ≡ 18 → ⊥)
never_room sheet work room n o wide long e = by_verdict (sheet_of sheet) refl
  where
    not-of : of_sheet n ≡ true → (n ≡ 10 → ⊥) × (n ≡ 18 → ⊥)
    not-of f = (λ same. fails (rw same at f), λ same. fails (rw same at f))

    by-joints : (rs : List Record) → sheet_of sheet ≡ Accepted rs → (t : Bool) → leb (length (set_of (height_in 0 rs) (cells_in rs))) max_joints ≡ t → (n ≡ 10 → ⊥) × (n ≡ 18 → ⊥)
    by-joints rs k true f = not_accepted (sym e ∙ room_enough sheet rs k work room wide long (leb-true _ max_joints f))
    by-joints rs k false f =
        let few = too_many sheet rs k work room (omega (arith, joint_records sheet rs k)) (leb-false _ max_joints f) in
        let same : n ≡ 5 = cc in (λ x. omega arith, λ x. omega arith)

    by_verdict : (v : Verdict (List Record)) → sheet_of sheet ≡ v → (n ≡ 10 → ⊥) × (n ≡ 18 → ⊥)
    by_verdict (Accepted rs) k = by-joints rs k (leb (length (set_of (height_in 0 rs) (cells_in rs))) max_joints) refl
    by_verdict (RefusedAt m at) k =
        let so : readSheet sheet work room ≡ RefusedAt m at = read_refused_at sheet work room m at k in
        let same : m ≡ n = cc in not-of (rw same at (by_sheet m at sheet k))

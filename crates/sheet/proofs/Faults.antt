-- The records of a sheet are refused exactly where one that is looked at is wrong, or the end is missing, or bytes come after it.
use Prim.Native.Nat.{ℕ, zero, suc, ◌+◌, ◌≤◌, ◌<◌}
use mathlib.Core.Bool.{Bool, true, false}
use mathlib.Core.Logic.{◌↔◌}
use mathlib.Core.Path.{◌≡◌, refl, sym, ◌∙◌}
use mathlib.Core.List.{List, [], ◌∷◌}
use native.Mathlib.Omega.{arith}
use lib.ListN.{length}
use lib.Dec.{eqb}
use borrow.Author.Tests.{le-leb, lt-ltb, le-ltb, ne_eqb, eqb-false}
use Rattle.refusal.specs.Answer.{Answer, Served, Refused, ◌unless◌}
use Rattle.order.proofs.Cases.{ltb_cases}
use Rattle.records.specs.declared.kind.Stage.{Stage}
use Rattle.records.specs.declared.kind.Stage.TheVariants.{Start}
use Rattle.records.specs.declared.record.Record.{Record}
use Rattle.records.specs.declared.record.Record.TheVariants.{End}
use Rattle.records.specs.Kinds.{stage_after}
use Rattle.records.specs.Records.{record_at, kind_in, next_after}
use Rattle.sheet.specs.Sheet.{Verdict, Accepted, RefusedAt, offset, ◌onward◌, height_after, with_rest, records, sheet_of, max_sheet}
use Rattle.sheet.specs.Scan.{is_end}
use Rattle.sheet.specs.Table.{LookedAt, first, next, Fault, wrong, no_end, bytes_after}
use Rattle.sheet.proofs.Scanning.{read_as, before_rest, end_is}
use Rattle.sheet.proofs.Shape.{not_accepted}

-- what is refused with one record more was refused without it
was_refused : (v : Verdict (List Record)) (r : Record) {n o : ℕ} → (v onward λ rs. Accepted (r ∷ rs)) ≡ RefusedAt n o → v ≡ RefusedAt n o
was_refused (Accepted rs) r e = not_accepted (sym e)
was_refused (RefusedAt n at) r e = e

-- the end that is refused has bytes after it
end_refused : (sheet : List ℕ) (after : ℕ) (v : Verdict (List Record)) {n o : ℕ} → with_rest sheet after End v ≡ RefusedAt n o → (17 ≡ n) × (after ≡ o) × (after ≡ length sheet → ⊥)
unfolding with_rest
end_refused sheet after v {n} {o} = by_test (eqb after (length sheet)) refl
  where
    by_test : (t : Bool) → eqb after (length sheet) ≡ t → (offset after (17 unless t) onward λ _. Accepted (End ∷ [])) ≡ RefusedAt n o → (17 ≡ n) × (after ≡ o) × (after ≡ length sheet → ⊥)
    by_test true f e = not_accepted (sym e)
    by_test false f e = (let same : 17 ≡ n = cc in same, let there : after ≡ o = cc in there, eqb-false after (length sheet) f)

-- no end record
none : (sheet : List ℕ) {stage : Stage} {h at n o : ℕ} → LookedAt sheet stage h at → at ≤ length sheet → length sheet ≤ at → ◌≡◌ {A = Verdict (List Record)} (RefusedAt 17 (length sheet)) (RefusedAt n o) → Fault sheet n o
none sheet {at = at} {n = n} {o = o} seen within over e =
    let here : at ≡ length sheet = omega arith in
    let same : 17 ≡ n = cc in
    let there : length sheet ≡ o = cc in
    rw (← same, ← there) (no_end (rw here at seen))

-- records that are refused from the offset of one that is looked at have a fault
fault_from : (sheet : List ℕ) (fuel : ℕ) {stage : Stage} {h at n o : ℕ} → LookedAt sheet stage h at → at ≤ length sheet → length sheet ≤ fuel + at → records fuel stage h sheet at ≡ RefusedAt n o → Fault sheet n o
unfolding records
fault_from sheet zero seen within few e = none sheet seen within (omega arith) e
fault_from sheet (suc fuel) {stage} {h} {at} {n} {o} seen within few e =
    ltb_cases at (length sheet)
    (λ lt t. by_record (λ r seen' within' few' e'. fault_from sheet fuel seen' within' few' e') lt (record_at stage h sheet at) refl (rw t at e))
    (λ over t. none sheet seen within over (rw t at e))
  where
    rest : Record → Verdict (List Record)
    rest r = records fuel (stage_after (kind_in r)) (height_after h r) sheet (next_after at r)

    Later : Type 0
    Later = (r : Record) → LookedAt sheet (stage_after (kind_in r)) (height_after h r) (next_after at r) → next_after at r ≤ length sheet → length sheet ≤ fuel + next_after at r → rest r ≡ RefusedAt n o → Fault sheet n o

    by_end : Later → (r : Record) → at < length sheet → record_at stage h sheet at ≡ Served r → (t : Bool) → is_end r ≡ t → with_rest sheet (next_after at r) r (rest r) ≡ RefusedAt n o → Fault sheet n o
    by_end later r lt read true i e =
        let is = end_is r i in
        let said = end_refused sheet (next_after at End) (rest End) (rw is at e) in
        let ends : record_at stage h sheet at ≡ Served End = rw is at read in
        rw (← said.0, ← said.1) (bytes_after seen ends (omega (arith, (read_as stage h sheet at End ends).long, said.2)))
    by_end later r lt read false i e =
        later r (next r seen read i) (read_as stage h sheet at r read).long (omega arith) (was_refused (rest r) r (sym (before_rest sheet (next_after at r) r (rest r) i) ∙ e))

    by_record : Later → at < length sheet → (a : Answer Record) → record_at stage h sheet at ≡ a → (offset at a onward λ r. with_rest sheet (next_after at r) r (rest r)) ≡ RefusedAt n o → Fault sheet n o
    by_record later lt (Served r) read e = by_end later r lt read (is_end r) refl e
    by_record later lt (Refused k) read e = let same : k ≡ n = cc in let there : at ≡ o = cc in rw (← there) (wrong seen lt (rw same at read))

-- one record more is read
one_more : (sheet : List ℕ) (fuel : ℕ) (stage : Stage) (h at : ℕ) (r : Record) {n o : ℕ} → at < length sheet → record_at stage h sheet at ≡ Served r → is_end r ≡ false
    → records fuel (stage_after (kind_in r)) (height_after h r) sheet (next_after at r) ≡ RefusedAt n o → records (suc fuel) stage h sheet at ≡ RefusedAt n o
unfolding records
one_more sheet fuel stage h at r lt read go e = rw (lt-ltb at (length sheet) lt, read, before_rest sheet (next_after at r) r (records fuel (stage_after (kind_in r)) (height_after h r) sheet (next_after at r)) go, e)

-- what is refused from a record that is looked at is refused of the sheet
record Seen (sheet : List ℕ) (stage : Stage) (h at : ℕ) : Type 0 where
  fuel : ℕ
  enough : length sheet ≤ fuel + at
  within : at ≤ length sheet
  refused : (n o : ℕ) → records fuel stage h sheet at ≡ RefusedAt n o → records (length sheet) Start 0 sheet 0 ≡ RefusedAt n o

looked : (sheet : List ℕ) {stage : Stage} {h at : ℕ} → LookedAt sheet stage h at → Seen sheet stage h at
looked sheet first = record { fuel = length sheet; enough = omega arith; within = omega arith; refused = λ n o e. e }
looked sheet (next {stage = stage} {h = h} {at = at} r seen read go) = by-fuel (looked sheet seen).fuel (looked sheet seen).enough (looked sheet seen).refused
  where
    by-fuel : (fuel : ℕ) → length sheet ≤ fuel + at → ((n o : ℕ) → records fuel stage h sheet at ≡ RefusedAt n o → records (length sheet) Start 0 sheet 0 ≡ RefusedAt n o)
        → Seen sheet (stage_after (kind_in r)) (height_after h r) (next_after at r)
    by-fuel zero few so = absurd (omega (arith, (read_as stage h sheet at r read).long))
    by-fuel (suc fuel) few so = record {
      fuel = fuel;
      enough = omega arith;
      within = (read_as stage h sheet at r read).long;
      refused = λ n o e. so n o (one_more sheet fuel stage h at r (omega (arith, (read_as stage h sheet at r read).long)) read go e);
    }

-- a fault refuses the records from where it is
fault_here : (sheet : List ℕ) {n o : ℕ} → Fault sheet n o → records (length sheet) Start 0 sheet 0 ≡ RefusedAt n o
unfolding records with_rest
fault_here sheet (wrong {stage = stage} {h = h} {at = at} {n = n} seen lt read) = by-fuel (looked sheet seen).fuel (looked sheet seen).enough ((looked sheet seen).refused n at)
  where
    by-fuel : (fuel : ℕ) → length sheet ≤ fuel + at → (records fuel stage h sheet at ≡ RefusedAt n at → records (length sheet) Start 0 sheet 0 ≡ RefusedAt n at) → records (length sheet) Start 0 sheet 0 ≡ RefusedAt n at
    by-fuel zero few so = absurd (omega arith)
    by-fuel (suc fuel) few so = so (rw (lt-ltb at (length sheet) lt, read))
fault_here sheet (no_end {stage = stage} {h = h} seen) = (looked sheet seen).refused 17 (length sheet) (by-fuel (looked sheet seen).fuel)
  where
    by-fuel : (fuel : ℕ) → records fuel stage h sheet (length sheet) ≡ RefusedAt 17 (length sheet)
    by-fuel zero = refl
    by-fuel (suc fuel) = rw (le-ltb (length sheet) (length sheet) (omega arith))
fault_here sheet (bytes_after {stage = stage} {h = h} {at = at} seen read lt) = by-fuel (looked sheet seen).fuel (looked sheet seen).enough ((looked sheet seen).refused 17 (next_after at End))
  where
    by-fuel : (fuel : ℕ) → length sheet ≤ fuel + at → (records fuel stage h sheet at ≡ RefusedAt 17 (next_after at End) → records (length sheet) Start 0 sheet 0 ≡ RefusedAt 17 (next_after at End))
        → records (length sheet) Start 0 sheet 0 ≡ RefusedAt 17 (next_after at End)
    by-fuel zero few so = absurd (omega arith)
    by-fuel (suc fuel) few so = so (rw (lt-ltb at (length sheet) (omega arith), read, ne_eqb (next_after at End) (length sheet) (omega arith)))

-- a sheet that is not too long is refused exactly by its fault, with its number and at its offset
pub sheet_faults : (sheet : List ℕ) (n o : ℕ) → length sheet ≤ max_sheet → (sheet_of sheet ≡ RefusedAt n o) ↔ Fault sheet n o
unfolding sheet_of
sheet_faults sheet n o short =
    (λ e. fault_from sheet (length sheet) first (omega arith) (omega arith) (rw (le-leb (length sheet) max_sheet short) at e), λ f. rw (le-leb (length sheet) max_sheet short) (fault_here sheet f))

-- Reading a sheet gives each of its numbers, at its offset, exactly when the table says, in the sheet order of document 01: 19; of each record 14, 15, 16, and of its body
-- 1, or 13, and for a joint 12; then 17; last 10, 5, then 18.
use Prim.Native.Nat.{ℕ, ◌≤◌, ◌<◌}
use mathlib.Core.Bool.{Bool, true, false}
use mathlib.Core.Logic.{◌↔◌, ◌⊎◌, inl, inr, ⊎_elim}
use mathlib.Core.Path.{◌≡◌, refl, sym, ◌∙◌}
use mathlib.Core.List.{List}
use native.Mathlib.Omega.{arith}
use lib.ListN.{length, get_or}
use lib.Dec.{leb, eqb}
use borrow.Author.Tests.{leb-true, leb-false, le-leb, lt-leb, eqb-false, ne_eqb}
use Rattle.refusal.proofs.Tests.{fails}
use Rattle.refusal.specs.Answer.{Served, Refused, ◌unless◌, ◌then◌}
use Rattle.order.proofs.Cases.{leb_cases}
use Rattle.board.specs.Limits.{max_joints}
use Rattle.build.specs.Build.{set_of, bitmap_of}
use Rattle.build.specs.Answers.{codes_built_of}
use Rattle.records.specs.declared.kind.Stage.{Stage}
use Rattle.records.specs.declared.record.Record.{Record}
use Rattle.records.specs.Records.{record_at}
use Rattle.sheet.specs.Sheet.{Verdict, Accepted, RefusedAt, offset, ◌onward◌, max_sheet, sheet_of, height_in, cells_in}
use Rattle.sheet.specs.Promise.{board_of, read_of}
use Rattle.sheet.specs.Table.{Fault, wrong, no_end, bytes_after, At, UnknownKind, OutOfPlace, CutShort, WholeBody, NotMeasures, JointOff, HeightOff, NoEnd, BytesAfter}
use Rattle.sheet.proofs.Shape.{not_accepted}
use Rattle.sheet.proofs.Faults.{sheet_faults}
use Rattle.sheet.proofs.Refusals.{of_record, of_sheet, by_record, by_sheet, sheet_long, read_refused_at}
use Rattle.sheet.proofs.Theorems.{too_many}
use Rattle.sheet.proofs.ExactlyRecords.{record_14, record_15, record_16, record_body, body_1, body_12, body_13}

-- the three tests of the board, in their order
three_tests : (a b c : Bool) (x : List ℕ) (f : List ℕ → Verdict (List ℕ)) (all : (x : List ℕ) (n o : ℕ) → f x ≡ RefusedAt n o → ⊥) (n o : ℕ)
    → (offset 0 (10 unless a) onward λ _. offset 0 (5 unless b then 18 unless c then Served x) onward f) ≡ RefusedAt n o
    → (o ≡ 0) × (((n ≡ 10) × (a ≡ false)) ⊎ (((n ≡ 5) × (a ≡ true) × (b ≡ false)) ⊎ ((n ≡ 18) × (a ≡ true) × (b ≡ true) × (c ≡ false))))
three_tests false b c x f all n o e = let there : o ≡ 0 = cc in let same : n ≡ 10 = cc in (there, inl (same, refl))
three_tests true false c x f all n o e = let there : o ≡ 0 = cc in let same : n ≡ 5 = cc in (there, inr (inl (same, refl, refl)))
three_tests true true false x f all n o e = let there : o ≡ 0 = cc in let same : n ≡ 18 = cc in (there, inr (inr (same, refl, refl, refl)))
three_tests true true true x f all n o e = absurd (all x n o e)

module _ (sheet : List ℕ) (work room : ℕ) where
  -- of accepted records: by one of the three, at offset 0
  board_tests : (rs : List Record) (n o : ℕ) → board_of work room rs ≡ RefusedAt n o
      → (o ≡ 0) × (((n ≡ 10) × (work < length (cells_in rs)))
      ⊎ (((n ≡ 5) × (length (cells_in rs) ≤ work) × (max_joints < length (set_of (height_in 0 rs) (cells_in rs))))
      ⊎ ((n ≡ 18) × (length (cells_in rs) ≤ work) × (length (set_of (height_in 0 rs) (cells_in rs)) ≤ max_joints) × (room < length (bitmap_of (height_in 0 rs) (cells_in rs))))))
  unfolding board_of codes_built_of set_of bitmap_of
  board_tests rs n o e =
      let said = three_tests (leb (length (cells_in rs)) work) _ _ _ _ (λ x m p f. not_accepted (sym f)) n o e in (
        said.0,
        ⊎_elim
            (λ w. inl (w.0, leb-false _ _ w.1))
            (λ v. ⊎_elim
            (λ w. inr (inl (w.0, leb-true _ _ w.1, leb-false _ _ w.2)))
            (λ w. inr (inr (w.0, leb-true _ _ w.1, leb-true _ _ w.2, leb-false _ _ w.3)))
            v)
            said.1,
      )

  -- a sheet is refused by its records, or is accepted and refused by its board
  by_part : {P : Type 0} (n o : ℕ) → read_of sheet work room ≡ RefusedAt n o → (sheet_of sheet ≡ RefusedAt n o → P) → ((rs : List Record) → sheet_of sheet ≡ Accepted rs → board_of work room rs ≡ RefusedAt n o → P) → P
  unfolding read_of
  by_part {P} n o e first later = by_verdict (sheet_of sheet) refl e
    where
      by_verdict : (v : Verdict (List Record)) → sheet_of sheet ≡ v → (v onward board_of work room) ≡ RefusedAt n o → P
      by_verdict (Accepted rs) k f = later rs k f
      by_verdict (RefusedAt m at) k f = let same : m ≡ n = cc in let there : at ≡ o = cc in first (rw (same, there) at k)

  -- a number that is not the board's: it is refused by its records
  by_records : (n o : ℕ) → eqb n 10 ≡ false → eqb n 5 ≡ false → eqb n 18 ≡ false → read_of sheet work room ≡ RefusedAt n o → sheet_of sheet ≡ RefusedAt n o
  by_records n o a b c e =
      by_part n o e (λ f. f) λ rs k f.
      absurd (⊎_elim (λ w. eqb-false n 10 a w.0) (λ v. ⊎_elim (λ w. eqb-false n 5 b w.0) (λ w. eqb-false n 18 c w.0) v) (board_tests rs n o f).1)

  -- 19: longer than 65,536 bytes, at offset 0
  pub sheet_19 : (o : ℕ) → (read_of sheet work room ≡ RefusedAt 19 o) ↔ ((max_sheet < length sheet) × (o ≡ 0))
  sheet_19 o = (
    λ e. let refused = by_records 19 o refl refl refl e in
        leb_cases (length sheet) max_sheet
        (λ short t. absurd (not_19 ((sheet_faults sheet 19 o short).0 refused) refl))
        (λ long t. let first = sheet_long sheet long in (long, let there : o ≡ 0 = cc in there)),
    λ w. let there = w.1 in rw there (read_refused_at sheet work room 19 0 (sheet_long sheet w.0)),
  )
    where
      not_19 : {m at : ℕ} → Fault sheet m at → m ≡ 19 → ⊥
      not_19 (wrong {stage = stage} {h = h} {at = at} {n = m} seen lt read) e = fails (rw e at (by_record m stage h sheet at read))
      not_19 (no_end seen) e = omega arith
      not_19 (bytes_after seen read lt) e = omega arith

  -- a sheet that is refused by a number of its records is not too long
  short_then : (n o : ℕ) → eqb n 19 ≡ false → sheet_of sheet ≡ RefusedAt n o → length sheet ≤ max_sheet
  short_then n o d e =
      leb_cases (length sheet) max_sheet (λ short t. short) λ long t. let f = sheet_long sheet long in absurd (eqb-false n 19 d (let same : n ≡ 19 = cc in same))

  -- a number of a record: it is given, at its kind byte, exactly where a record that is looked at is refused by it
  pub sheet_record : (n o : ℕ) → of_record n ≡ true → (So : Stage → ℕ → Type 0) → ((stage : Stage) (h : ℕ) → (record_at stage h sheet o ≡ Refused n) ↔ So stage h) → (read_of sheet work room ≡ RefusedAt n o) ↔ At sheet o So
  sheet_record n o is So so = (
    λ e. let refused = by_records n o (not_it 10 refl) (not_it 5 refl) (not_it 18 refl) e in
        let short = short_then n o (not_it 19 refl) refused in
        by_fault short ((sheet_faults sheet n o short).0 refused) refl refl,
    λ w. read_refused_at sheet work room n o ((sheet_faults sheet n o w.0).1 (wrong w.3 w.4 ((so w.1 w.2).1 w.5))),
  )
    where
      not_it : (k : ℕ) → of_record k ≡ false → eqb n k ≡ false
      not_it k none = ne_eqb n k (λ e. fails (sym none ∙ rw e at is))

      by_fault : length sheet ≤ max_sheet → {m at : ℕ} → Fault sheet m at → m ≡ n → at ≡ o → At sheet o So
      by_fault short (wrong {stage = stage} {h = h} seen lt read) same there =
          (short, stage, h, rw there at seen, rw there at lt, (so stage h).0 (rw (same, there) at read))
      by_fault short (no_end seen) same there = fails (rw (← same) at is)
      by_fault short (bytes_after seen read lt) same there = fails (rw (← same) at is)

  -- 14: unknown kind
  pub sheet_14 : (o : ℕ) → (read_of sheet work room ≡ RefusedAt 14 o) ↔ At sheet o (λ stage h. UnknownKind (get_or sheet o 0))
  sheet_14 o = sheet_record 14 o refl _ (λ stage h. record_14 stage h sheet o)

  -- 15: record out of place
  pub sheet_15 : (o : ℕ) → (read_of sheet work room ≡ RefusedAt 15 o) ↔ At sheet o (λ stage h. OutOfPlace sheet o stage)
  sheet_15 o = sheet_record 15 o refl _ (λ stage h. record_15 stage h sheet o)

  -- 16: record cut short
  pub sheet_16 : (o : ℕ) → (read_of sheet work room ≡ RefusedAt 16 o) ↔ At sheet o (λ stage h. CutShort sheet o stage)
  sheet_16 o = sheet_record 16 o refl _ (λ stage h. record_16 stage h sheet o)

  -- 1: height not 1 to 10
  pub sheet_1 : (o : ℕ) → (read_of sheet work room ≡ RefusedAt 1 o) ↔ At sheet o (λ stage h. WholeBody sheet o stage HeightOff)
  sheet_1 o = sheet_record 1 o refl _ (λ stage h. record_body stage h sheet o 1 refl refl refl HeightOff (λ kind. body_1 h kind _))

  -- 13: not a written measure
  pub sheet_13 : (o : ℕ) → (read_of sheet work room ≡ RefusedAt 13 o) ↔ At sheet o (λ stage h. WholeBody sheet o stage NotMeasures)
  sheet_13 o = sheet_record 13 o refl _ (λ stage h. record_body stage h sheet o 13 refl refl refl NotMeasures (λ kind. body_13 h kind _))

  -- 12: cell not on the board
  pub sheet_12 : (o : ℕ) → (read_of sheet work room ≡ RefusedAt 12 o) ↔ At sheet o (λ stage h. WholeBody sheet o stage (JointOff h))
  sheet_12 o = sheet_record 12 o refl _ (λ stage h. record_body stage h sheet o 12 refl refl refl (JointOff h) (λ kind. body_12 h kind _))

  -- 17: no end record, or bytes after it
  pub sheet_17 : (o : ℕ) → (read_of sheet work room ≡ RefusedAt 17 o) ↔ ((length sheet ≤ max_sheet) × (NoEnd sheet o ⊎ BytesAfter sheet o))
  sheet_17 o = (
    λ e. let refused = by_records 17 o refl refl refl e in
        let short = short_then 17 o refl refused in
        (short, by_fault ((sheet_faults sheet 17 o short).0 refused) refl refl),
    λ w. read_refused_at sheet work room 17 o ((sheet_faults sheet 17 o w.0).1 (fault w.1)),
  )
    where
      by_fault : {m at : ℕ} → Fault sheet m at → m ≡ 17 → at ≡ o → NoEnd sheet o ⊎ BytesAfter sheet o
      by_fault (wrong {stage = stage} {h = h} {at = at} {n = m} seen lt read) same there = fails (rw same at (by_record m stage h sheet at read))
      by_fault (no_end {stage = stage} {h = h} seen) same there = inl (sym there, stage, h, seen)
      by_fault (bytes_after {stage = stage} {h = h} {at = at} seen read lt) same there = inr (stage, h, at, seen, read, sym there, rw there at lt)

      fault : NoEnd sheet o ⊎ BytesAfter sheet o → Fault sheet 17 o
      fault (inl (there, stage, h, seen)) = rw there (no_end seen)
      fault (inr (stage, h, at, seen, read, there, lt)) = rw there (bytes_after seen read (rw there at lt))

  -- a sheet that is refused by its board was accepted
  by_board : {P : Type 0} (n o : ℕ) → of_sheet n ≡ false → read_of sheet work room ≡ RefusedAt n o → ((rs : List Record) → sheet_of sheet ≡ Accepted rs → board_of work room rs ≡ RefusedAt n o → P) → P
  by_board n o none e later = by_part n o e (λ f. fails (sym none ∙ by_sheet n o sheet f)) later

  -- 10: work list shorter than the joint records
  pub sheet_10 : (o : ℕ) → (read_of sheet work room ≡ RefusedAt 10 o) ↔ ((o ≡ 0) × (rs : List Record) × (sheet_of sheet ≡ Accepted rs) × (work < length (cells_in rs)))
  sheet_10 o = (
    λ e. by_board 10 o refl e λ rs k f.
        let said = board_tests rs 10 o f in
        ⊎_elim (λ w. (said.0, rs, k, w.1)) (λ v. absurd (⊎_elim (λ w. omega (arith, w.0)) (λ w. omega (arith, w.0)) v)) said.1,
    λ w. let there = w.0 in unfold read_of board_of in rw (there, w.2, lt-leb (length (cells_in w.1)) work w.3),
  )

  -- 5: more than 4,096 distinct joints
  pub sheet_5 : (o : ℕ) → (read_of sheet work room ≡ RefusedAt 5 o)
      ↔ ((o ≡ 0) × (rs : List Record) × (sheet_of sheet ≡ Accepted rs) × (length (cells_in rs) ≤ work) × (max_joints < length (set_of (height_in 0 rs) (cells_in rs))))
  sheet_5 o = (
    λ e. by_board 5 o refl e λ rs k f.
        let said = board_tests rs 5 o f in
        ⊎_elim (λ w. absurd (omega (arith, w.0))) (λ v. ⊎_elim (λ w. (said.0, rs, k, w.1, w.2)) (λ w. absurd (omega (arith, w.0))) v) said.1,
    λ w. let there = w.0 in rw there (too_many sheet w.1 w.2 work room w.3 w.4),
  )

  -- 18: bitmap room too short
  pub sheet_18 : (o : ℕ) → (read_of sheet work room ≡ RefusedAt 18 o)
      ↔ ((o ≡ 0) × (rs : List Record) × (sheet_of sheet ≡ Accepted rs) × (length (cells_in rs) ≤ work) × (length (set_of (height_in 0 rs) (cells_in rs)) ≤ max_joints) × (room < length (bitmap_of (height_in 0 rs) (cells_in rs))))
  sheet_18 o = (
    λ e. by_board 18 o refl e λ rs k f.
        let said = board_tests rs 18 o f in
        ⊎_elim (λ w. absurd (omega (arith, w.0))) (λ v. ⊎_elim (λ w. absurd (omega (arith, w.0))) (λ w. (said.0, rs, k, w.1, w.2, w.3)) v) said.1,
    λ w. let there = w.0 in
        unfold read_of board_of codes_built_of set_of bitmap_of in
        rw (there, w.2, le-leb (length (cells_in w.1)) work w.3, le-leb _ max_joints w.4, lt-leb _ room w.5),
  )

-- The first line of a report: the offset of a refusal lies in the sheet, and what is put is what reading the sheet answers.
use Prim.Native.Nat.{ℕ, zero, suc, ◌-◌, ◌≤◌, ◌<◌}
use mathlib.Core.Path.{◌≡◌, refl, sym, ap, ◌∙◌}
use mathlib.Core.List.{List, [], ◌∷◌, ◌++◌, map}
use native.Mathlib.Omega.{arith}
use lib.ListN.{length, get_or, take, replicate, length-append}
use lib.Seq.{take_at}
use lib.Dec.{leb, ltb, eqb}
use borrow.Author.Tests.{leb-true, ltb-true}
use Rattle.refusal.specs.Answer.{Answer, Served, Refused, ◌unless◌, left_in}
use Rattle.board.specs.Code.{code_of}
use Rattle.build.specs.Build.{bitmap_of}
use Rattle.build.specs.Answers.{codes_built_of}
use Rattle.records.specs.declared.kind.Stage.{Stage}
use Rattle.records.specs.declared.kind.Stage.TheVariants.{Start}
use Rattle.records.specs.declared.record.Record.{Record}
use Rattle.records.specs.declared.record.Record.TheVariants.{Board as BoardOf, Joint, Question, Window, End}
use Rattle.records.specs.Kinds.{stage_after}
use Rattle.records.specs.Records.{record_at, kind_in, next_after}
use Rattle.sheet.specs.Sheet.{Verdict, Accepted, RefusedAt, offset, ◌onward◌, height_after, with_rest, records, sheet_of, max_sheet, max_records, max_bytes, height_in, cells_in}
use Rattle.sheet.specs.Promise.{board_of, read_of, bitmap_in, Promise}
use Rattle.std.specs.Prelude.{Result, Some, None}
use Rattle.sheet.specs.declared.Sheeted.{Sheeted}
use Rattle.sheet.specs.declared.RefusedAt.{RefusedAt as TurnedAt}
use Rattle.sheet.proofs.Shape.{was_passed}
use Rattle.sheet.proofs.Served.{served_board}
use Rattle.text.specs.Text.{bytes_of, Put}
use Rattle.text.specs.Lines.{board_line, refused_line}
use Rattle.lines.specs.Start.{told_of, Started}
use Rattle.lines.specs.Whole.{BoardIn, first_request}

-- the offset of a refusal
abbrev pub offset_in : {A : Type 0} → Verdict A → ℕ
offset_in (Accepted x) = 0
offset_in (RefusedAt n at) = at

-- of verdicts in a row
onward_low : {A B : Type 0} (most : ℕ) (v : Verdict A) (f : A → Verdict B) → offset_in v ≤ most → ((x : A) → v ≡ Accepted x → offset_in (f x) ≤ most) → offset_in (v onward f) ≤ most
onward_low most (Accepted x) f h g = g x refl
onward_low most (RefusedAt n at) f h g = h

-- of an answer at an offset
offset_low : {A : Type 0} (most at : ℕ) (a : Answer A) → at ≤ most → offset_in (offset at a) ≤ most
offset_low most at (Served x) h = omega arith
offset_low most at (Refused n) h = h

-- of a record and the records after it
rest_low : (sheet : List ℕ) (at : ℕ) (r : Record) (v : Verdict (List Record)) → at < length sheet → offset_in v ≤ length sheet → offset_in (with_rest sheet (next_after at r) r v) ≤ length sheet
unfolding with_rest kind_in
rest_low sheet at End v h k = onward_low (length sheet) (offset (next_after at End) (17 unless eqb (next_after at End) (length sheet))) _ (offset_low (length sheet) (next_after at End) (17 unless eqb (next_after at End) (length sheet)) (omega arith)) (λ x e. omega arith)
rest_low sheet at (BoardOf b) v h k = onward_low (length sheet) v _ k (λ x e. omega arith)
rest_low sheet at (Joint r c) v h k = onward_low (length sheet) v _ k (λ x e. omega arith)
rest_low sheet at (Question n r c) v h k = onward_low (length sheet) v _ k (λ x e. omega arith)
rest_low sheet at (Window a b c d) v h k = onward_low (length sheet) v _ k (λ x e. omega arith)

-- of the records from a place on
records_low : (n : ℕ) (stage : Stage) (h : ℕ) (sheet : List ℕ) (at : ℕ) → offset_in (records n stage h sheet at) ≤ length sheet
unfolding records
records_low zero stage h sheet at = omega arith
records_low (suc n) stage h sheet at =
    onward_low (length sheet) (offset (length sheet) (17 unless ltb at (length sheet))) _ (offset_low (length sheet) (length sheet) (17 unless ltb at (length sheet)) (omega arith))
    λ x e. onward_low (length sheet) (offset at (record_at stage h sheet at)) _ (offset_low (length sheet) at (record_at stage h sheet at) (omega (arith, ltb-true at (length sheet) (was_passed (length sheet) 17 (ltb at (length sheet)) x e))))
    λ r k. rest_low sheet at r (records n (stage_after (kind_in r)) (height_after h r) sheet (next_after at r)) (ltb-true at (length sheet) (was_passed (length sheet) 17 (ltb at (length sheet)) x e)) (records_low n (stage_after (kind_in r)) (height_after h r) sheet (next_after at r))

-- of a sheet
pub sheet_low : (sheet : List ℕ) (work room : ℕ) → offset_in (read_of sheet work room) ≤ max_sheet
unfolding read_of sheet_of board_of
sheet_low sheet work room =
    onward_low max_sheet (sheet_of sheet) (board_of work room)
    (onward_low max_sheet (offset 0 (19 unless leb (length sheet) max_sheet)) _ (offset_low max_sheet 0 (19 unless leb (length sheet) max_sheet) (omega arith))
    λ x e. omega (arith, records_low (length sheet) Start 0 sheet 0, leb-true (length sheet) max_sheet (was_passed 0 19 (leb (length sheet) max_sheet) x e)))
    λ rs e.
    onward_low max_sheet (offset 0 (10 unless leb (length (cells_in rs)) work)) _ (offset_low max_sheet 0 (10 unless leb (length (cells_in rs)) work) (omega arith))
    λ x f.
    let built = codes_built_of (height_in 0 rs) (map (code_of (height_in 0 rs)) (cells_in rs)) room in
    onward_low max_sheet (offset 0 built) _ (offset_low max_sheet 0 built (omega arith)) λ y g. omega arith

module _ (sheet work bitmap out : List ℕ) (sheeted : Result Sheeted TurnedAt) (work' bitmap' out' : List ℕ) (end : ℕ) (kept : Promise sheet work bitmap sheeted work' bitmap') where
  -- the line of an accepted sheet
  pub started : (h j b l q : ℕ) → read_of sheet (length work) (length bitmap) ≡ Accepted (h ∷ j ∷ b ∷ l ∷ q ∷ []) → Put (bytes_of (board_line h j b)) 0 out end out'
      → Started sheet work bitmap out (record { board = Some (record { height = h; length = l; requests = q }); end = end }) work' bitmap' out'
  started h j b l q e p = record { text = rw e p; told = rw e; work_left = kept.work_left; bitmap_left = kept.bitmap_left }

  -- the line of a refused one
  pub not_started : (n at : ℕ) → read_of sheet (length work) (length bitmap) ≡ RefusedAt n at → Put (bytes_of (refused_line n at)) 0 out end out' → Started sheet work bitmap out (record { board = None; end = end }) work' bitmap' out'
  not_started n at e p = record { text = rw e p; told = rw e; work_left = kept.work_left; bitmap_left = kept.bitmap_left }

-- what was told is of a sheet that was served
was_told : {P : Type 0} (v : Verdict (List ℕ)) (h l q : ℕ) → h ∷ l ∷ q ∷ [] ≡ told_of v → ((served : List ℕ) → v ≡ Accepted served → h ≡ get_or served 0 0 → l ≡ get_or served 3 0 → q ≡ get_or served 4 0 → P) → P
was_told (Accepted served) h l q e go =
    go served refl (let high : h ≡ get_or served 0 0 = cc in high) (let long : l ≡ get_or served 3 0 = cc in long) (let there : q ≡ get_or served 4 0 = cc in there)
was_told (RefusedAt n at) h l q e go = let z : ◌≡◌ {A = ℕ} 0 1 = cc in absurd (omega arith)

-- what is begun with the program's room: its board, whose bytes are the first of the bitmap's list, and the offset of its first record after the joints
pub started_board : (sheet work bitmap out : List ℕ) (h l q end : ℕ) (work' bitmap' out' : List ℕ) → length work ≡ max_records → length bitmap ≡ max_bytes
    → Started sheet work bitmap out (record { board = Some (record { height = h; length = l; requests = q }); end = end }) work' bitmap' out' → BoardIn sheet h (take l bitmap') × (q ≡ first_request sheet) × (l ≤ length bitmap')
unfolding left_in bitmap_in
started_board sheet work bitmap out h l q end work' bitmap' out' wide long s =
    was_told (read_of sheet max_records max_bytes) h l q (rw (wide, long) at s.told) λ served reads high size there.
    served_board sheet max_records max_bytes served reads λ rs known.
    let bytes = bitmap_of (height_in 0 rs) (cells_in rs) in
    let as_long : l ≡ length bytes = size ∙ sym (ap (λ (vs : List ℕ). get_or vs 3 0) known.numbers) in
    let left : bitmap' ≡ bytes ++ replicate (max_bytes - length bytes) 0 = rw (wide, long, reads, known.accepted) at s.bitmap_left in
    let first : take l bitmap' ≡ bytes = rw left (take_at bytes (replicate (max_bytes - length bytes) 0) l (sym as_long)) in (
      record { served = served; reads = reads; high = high; bitmap = rw known.accepted first },
      rw reads there,
      rw (left, length-append) (omega arith),
    )

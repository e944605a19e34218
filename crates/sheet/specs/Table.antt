-- The sentences of document 01's table "Numbers of refusal" and of its "Sheet order" that speak of a sheet. proofs/Exactly.antt has each number given, at its
-- offset, exactly when they say.
use Rattle.std.specs.Prelude.{ℕ, ◌+◌, ◌≤◌, ◌<◌, true, false, ◌⊎◌, ◌≡◌, List, ℤ, nat_abs, length, get_or, take, drop}
use Rattle.refusal.specs.Answer.{Served, Refused}
use Rattle.measure.specs.Measure.{max_measure, written, written_marked}
use Rattle.board.specs.Table.{HeightServed, CellOn}
use Rattle.records.specs.declared.kind.Kind.{Kind}
use Rattle.records.specs.declared.kind.Kind.TheVariants.{Board, Joint, Question, Window, End}
use Rattle.records.specs.declared.kind.Stage.{Stage}
use Rattle.records.specs.declared.kind.Stage.TheVariants.{Start}
use Rattle.records.specs.declared.record.Record.{Record}
use Rattle.records.specs.declared.record.Record.TheVariants.{End as Ended}
use Rattle.records.specs.Kinds.{kind_of, body_length, in_place, stage_after}
use Rattle.records.specs.Records.{measure_at, record_at, kind_in, next_after}
use Rattle.sheet.specs.Sheet.{max_sheet, height_after}
use Rattle.sheet.specs.Scan.{is_end}

-- the offset of a record that is looked at, with how far the sheet has come and the board's height: the first record, and the one after a record that is right and
-- is not the end
pub data LookedAt (sheet : List ℕ) : Stage → ℕ → ℕ → Type 0 where
  first : LookedAt sheet Start 0 0
  next : {stage : Stage} {h at : ℕ} (r : Record) → LookedAt sheet stage h at → record_at stage h sheet at ≡ Served r → is_end r ≡ false → LookedAt sheet (stage_after (kind_in r)) (height_after h r) (next_after at r)

-- why and where the records of a sheet are refused: a record that is looked at, at its kind byte; 17 at the sheet's length where there is no end record, and at the first
-- byte after it where there is one
pub data Fault (sheet : List ℕ) : ℕ → ℕ → Type 0 where
  wrong : {stage : Stage} {h at n : ℕ} → LookedAt sheet stage h at → at < length sheet → record_at stage h sheet at ≡ Refused n → Fault sheet n at
  no_end : {stage : Stage} {h : ℕ} → LookedAt sheet stage h (length sheet) → Fault sheet 17 (length sheet)
  bytes_after : {stage : Stage} {h at : ℕ} → LookedAt sheet stage h at → record_at stage h sheet at ≡ Served Ended → next_after at Ended < length sheet → Fault sheet 17 (next_after at Ended)

-- a record is looked at there, in a sheet that is not too long, and this is so of it
abbrev pub At : List ℕ → ℕ → (Stage → ℕ → Type 0) → Type 0
At sheet at So = (length sheet ≤ max_sheet) × (stage : Stage) × (h : ℕ) × LookedAt sheet stage h at × (at < length sheet) × So stage h

-- 14: unknown kind
abbrev pub UnknownKind : ℕ → Type 0
UnknownKind byte = (1 ≤ byte) × (byte ≤ 5) → ⊥

-- 15: a record of a known kind is out of place
abbrev pub OutOfPlace : List ℕ → ℕ → Stage → Type 0
OutOfPlace sheet at stage = (kind : Kind) × (kind_of (get_or sheet at 0) ≡ Served kind) × (in_place stage kind ≡ false)

-- 16: a record in its place is cut short
abbrev pub CutShort : List ℕ → ℕ → Stage → Type 0
CutShort sheet at stage = (kind : Kind) × (kind_of (get_or sheet at 0) ≡ Served kind) × (in_place stage kind ≡ true) × (length sheet < at + 1 + body_length kind)

-- a whole record in its place, and this is so of its kind and its body
abbrev pub WholeBody : List ℕ → ℕ → Stage → (Kind → List ℕ → Type 0) → Type 0
WholeBody sheet at stage So = (kind : Kind) × (kind_of (get_or sheet at 0) ≡ Served kind) × (in_place stage kind ≡ true) × (at + 1 + body_length kind ≤ length sheet) × So kind (drop (at + 1) sheet)

-- 13: what stands at a place of a body is not a written measure, or not a marked one
abbrev pub NoMeasure : List ℕ → ℕ → Type 0
NoMeasure body at = (n : ℕ) → (take 5 (drop at body) ≡ written n) × (n ≤ max_measure) → ⊥

abbrev pub NoMarked : List ℕ → ℕ → Type 0
NoMarked body at = (z : ℤ) → (take 6 (drop at body) ≡ written_marked z) × (nat_abs z ≤ max_measure) → ⊥

-- 13: one of the measures of a body is none
abbrev pub NotMeasures : Kind → List ℕ → Type 0
NotMeasures Board body = ⊥
NotMeasures Joint body = NoMeasure body 0 ⊎ NoMeasure body 5
NotMeasures Question body = NoMarked body 1 ⊎ NoMarked body 7
NotMeasures Window body = NoMeasure body 0 ⊎ (NoMeasure body 5 ⊎ (NoMeasure body 10 ⊎ NoMeasure body 15))
NotMeasures End body = ⊥

-- 12: the cell of a joint is not on the board
abbrev pub JointOff : ℕ → Kind → List ℕ → Type 0
JointOff h kind body = (kind ≡ Joint) × (row : ℕ) × (column : ℕ) × (measure_at body 0 ≡ Served row) × (measure_at body 5 ≡ Served column) × (CellOn h row column → ⊥)

-- 1: the height of a board record is not 1 to 10
abbrev pub HeightOff : Kind → List ℕ → Type 0
HeightOff kind body = (kind ≡ Board) × (HeightServed (get_or body 0 0) → ⊥)

-- 17: no end record, at the sheet's length, or bytes after it, at the first of them
abbrev pub NoEnd : List ℕ → ℕ → Type 0
NoEnd sheet o = (o ≡ length sheet) × (stage : Stage) × (h : ℕ) × LookedAt sheet stage h (length sheet)

abbrev pub BytesAfter : List ℕ → ℕ → Type 0
BytesAfter sheet o = (stage : Stage) × (h : ℕ) × (at : ℕ) × LookedAt sheet stage h at × (record_at stage h sheet at ≡ Served Ended) × (o ≡ next_after at Ended) × (o < length sheet)

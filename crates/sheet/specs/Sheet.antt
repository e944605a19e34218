-- A joint sheet: its records, one after the other, up to and with the end.
use Rattle.std.specs.Prelude.{ℕ, zero, suc, ◌+◌, ◌*◌, List, [], ◌∷◌, ◌++◌, length, leb, ltb, eqb, Result, Ok, Err}
use Rattle.refusal.specs.Numbers.{number_of}
use Rattle.refusal.specs.Answer.{Answer, Served, Refused, ◌unless◌}
use Rattle.board.specs.Levels.{Box}
use Rattle.sheet.specs.declared.RefusedAt.{RefusedAt as Turned}
use Rattle.records.specs.declared.record.Record.{Record}
use Rattle.records.specs.declared.record.Record.TheVariants.{Board, Joint, Question, Window, End}
use Rattle.records.specs.declared.kind.Kind.TheVariants.{Board as boardKind, Joint as jointKind}
use Rattle.records.specs.declared.kind.Stage.{Stage}
use Rattle.records.specs.declared.kind.Stage.TheVariants.{Start}
use Rattle.records.specs.Kinds.{body_length, stage_after}
use Rattle.records.specs.Records.{record_at, kind_in, next_after}

-- the most bytes of a sheet
unfoldable pub max_sheet : ℕ
max_sheet = 65536

-- the most joint records that stand in so many (theorem `joint_records`)
abbrev pub max_records : ℕ
max_records = 5957

-- the bytes of the largest bitmap (theorem `groups_at_most` of the board)
abbrev pub max_bytes : ℕ
max_bytes = 8875

-- accepted, or refused with a number and an offset
pub data Verdict (A : Type 0) : Type 0 where
  Accepted : A → Verdict A
  RefusedAt : ℕ → ℕ → Verdict A

-- an answer, whose refusal is at an offset
abbrev pub offset : {A : Type 0} → ℕ → Answer A → Verdict A
offset at (Served x) = Accepted x
offset at (Refused n) = RefusedAt n at

-- what a call returns, said in other words
abbrev pub verdict_by : {A B : Type 0} → (A → B) → Result A Turned → Verdict B
verdict_by say (Ok x) = Accepted (say x)
verdict_by say (Err e) = RefusedAt (number_of e.refusal) e.offset

-- the first refusal; where the first verdict accepts, as is said of what it gives
infixr 10 ◌onward◌
abbrev pub ◌onward◌ : {A B : Type 0} → Verdict A → (A → Verdict B) → Verdict B
Accepted x onward f = f x
RefusedAt n at onward f = RefusedAt n at

-- the height of the board after a record
unfoldable pub height_after : ℕ → Record → ℕ
height_after h (Board k) = k
height_after h (Joint r c) = h
height_after h (Question k r c) = h
height_after h (Window a b c d) = h
height_after h End = h

-- a record with the records after it; after the end record no byte may follow: 17 at the first
unfoldable pub with_rest : List ℕ → ℕ → Record → Verdict (List Record) → Verdict (List Record)
with_rest sheet next End rest = offset next (17 unless eqb next (length sheet)) onward λ _. Accepted (End ∷ [])
with_rest sheet next (Board h) rest = rest onward λ rs. Accepted (Board h ∷ rs)
with_rest sheet next (Joint r c) rest = rest onward λ rs. Accepted (Joint r c ∷ rs)
with_rest sheet next (Question k r c) rest = rest onward λ rs. Accepted (Question k r c ∷ rs)
with_rest sheet next (Window a b c d) rest = rest onward λ rs. Accepted (Window a b c d ∷ rs)

-- the records from a place on, n at the most: each has a byte, so a sheet's length is enough; no end record is 17 at the sheet's length
unfoldable pub records : ℕ → Stage → ℕ → List ℕ → ℕ → Verdict (List Record)
records zero stage h sheet at = RefusedAt 17 (length sheet)
records (suc n) stage h sheet at =
    offset (length sheet) (17 unless ltb at (length sheet)) onward λ _.
    offset at (record_at stage h sheet at) onward λ r.
    with_rest sheet (next_after at r) r (records n (stage_after (kind_in r)) (height_after h r) sheet (next_after at r))

-- the records of a sheet; one that is too long is 19 at offset 0
unfoldable pub sheet_of : List ℕ → Verdict (List Record)
sheet_of sheet = offset 0 (19 unless leb (length sheet) max_sheet) onward λ _. records (length sheet) Start 0 sheet 0

-- the height that records give, to a board of height h before them
unfoldable pub height_in : ℕ → List Record → ℕ
height_in h [] = h
height_in h (r ∷ rs) = height_in (height_after h r) rs

-- the cells of the joints, in the order of the sheet
unfoldable pub cell_in : Record → List Box
cell_in (Board h) = []
cell_in (Joint r c) = record { row = r; col = c } ∷ []
cell_in (Question k r c) = []
cell_in (Window a b c d) = []
cell_in End = []

unfoldable pub cells_in : List Record → List Box
cells_in [] = []
cells_in (r ∷ rs) = cell_in r ++ cells_in rs

-- the offset of joint record i: the board record and the joint records before it, each with its byte of kind
abbrev pub joint_offset : ℕ → ℕ
joint_offset i = (1 + body_length boardKind) + (1 + body_length jointKind) * i

-- the offset of the first record after the joints
abbrev pub after_joints : List Record → ℕ
after_joints rs = joint_offset (length (cells_in rs))

-- the records after the joints
unfoldable pub requests_in : List Record → List Record
requests_in [] = []
requests_in (Board h ∷ rs) = requests_in rs
requests_in (Joint r c ∷ rs) = requests_in rs
requests_in (Question k r c ∷ rs) = Question k r c ∷ requests_in rs
requests_in (Window a b c d ∷ rs) = Window a b c d ∷ requests_in rs
requests_in (End ∷ rs) = End ∷ requests_in rs

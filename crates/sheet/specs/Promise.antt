-- What reading a sheet answers, and what it leaves in the lists lent to it.
use Rattle.std.specs.Prelude.{ℕ, ◌≡◌, Result, List, [], ◌∷◌, ◌++◌, map, length, replicate, leb}
use Rattle.refusal.specs.Answer.{Answer, Served, Refused, ◌unless◌, left_in}
use Rattle.board.specs.Code.{code_of}
use Rattle.build.specs.Build.{bitmap_of}
use Rattle.build.specs.Answers.{codes_built_of}
use Rattle.sheet.specs.declared.Sheeted.{Sheeted}
use Rattle.sheet.specs.declared.RefusedAt.{RefusedAt as Turned}
use Rattle.records.specs.declared.record.Record.{Record}
use Rattle.sheet.specs.Sheet.{Verdict, Accepted, RefusedAt, offset, verdict_by, ◌onward◌, sheet_of, height_in, cells_in, after_joints}

-- the paper's numbers: of a board the height, the distinct joints, the boxes, the bitmap's length, the offset of the first record after the joints
abbrev pub sheeted_of : Result Sheeted Turned → Verdict (List ℕ)
sheeted_of = verdict_by (λ (b : Sheeted). b.height ∷ b.joints ∷ b.boxes ∷ b.length ∷ b.requests ∷ [])

-- what is answered for accepted records, with room for so many codes and so many bytes: 10, 5, then 18, all at offset 0
unfoldable pub board_of : ℕ → ℕ → List Record → Verdict (List ℕ)
board_of work room rs =
    offset 0 (10 unless leb (length (cells_in rs)) work) onward λ _.
    offset 0 (codes_built_of (height_in 0 rs) (map (code_of (height_in 0 rs)) (cells_in rs)) room) onward λ built.
    Accepted (height_in 0 rs ∷ (built ++ after_joints rs ∷ []))

-- the answer to a sheet
unfoldable pub read_of : List ℕ → ℕ → ℕ → Verdict (List ℕ)
read_of sheet work room = sheet_of sheet onward board_of work room

-- the bitmap of its joints
unfoldable pub bitmap_in : Verdict (List Record) → List ℕ
bitmap_in (Accepted rs) = bitmap_of (height_in 0 rs) (cells_in rs)
bitmap_in (RefusedAt n at) = []

-- the answer without the offset
abbrev pub answer_in : {A : Type 0} → Verdict A → Answer A
answer_in (Accepted x) = Served x
answer_in (RefusedAt n at) = Refused n

-- the answer; zeros in the work list; in the bitmap's room the bitmap and zeros, or zeros alone after a refusal
pub record Promise (sheet work bitmap : List ℕ) (r : Result Sheeted Turned) (work' bitmap' : List ℕ) : Type 0 where
  pub answered : sheeted_of r ≡ read_of sheet (length work) (length bitmap)
  pub work_left : work' ≡ replicate (length work) 0
  pub bitmap_left : bitmap' ≡ left_in (answer_in (read_of sheet (length work) (length bitmap))) (bitmap_in (sheet_of sheet)) (length bitmap)

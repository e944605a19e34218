-- The first line of a report, and what reading the sheet leaves.
use Rattle.std.specs.Prelude.{ℕ, ◌≡◌, List, [], ◌∷◌, length, get_or, replicate, Option, Some, None}
use Rattle.refusal.specs.Answer.{left_in}
use Rattle.sheet.specs.Sheet.{Verdict, Accepted, RefusedAt, sheet_of}
use Rattle.sheet.specs.Promise.{read_of, bitmap_in, answer_in}
use Rattle.lines.specs.declared.start.Begun.{Begun}
use Rattle.lines.specs.declared.start.BoardSize.{BoardSize}
use Rattle.text.specs.Text.{Line, bytes_of, Put}
use Rattle.text.specs.Lines.{board_line, refused_line}

-- the first line, by what reading a sheet answers: height, joints and boxes, or the number and the offset
abbrev pub first_line : Verdict (List ℕ) → Line
first_line (Accepted served) = board_line (get_or served 0 0) (get_or served 1 0) (get_or served 2 0)
first_line (RefusedAt n at) = refused_line n at

-- what is told of a board: height, length of the bitmap, and the offset of the first record after the joints
abbrev pub told_in : Option BoardSize → List ℕ
told_in (Some board) = board.height ∷ board.length ∷ board.requests ∷ []
told_in None = []

abbrev pub told_of : Verdict (List ℕ) → List ℕ
told_of (Accepted served) = get_or served 0 0 ∷ get_or served 3 0 ∷ get_or served 4 0 ∷ []
told_of (RefusedAt n at) = []

-- the first line is put, the bitmap is left in its list, and the work list is left with zeros
pub record Started (sheet work bitmap out : List ℕ) (r : Begun) (work' bitmap' out' : List ℕ) : Type 0 where
  pub text : Put (bytes_of (first_line (read_of sheet (length work) (length bitmap)))) 0 out r.end out'
  pub told : told_in r.board ≡ told_of (read_of sheet (length work) (length bitmap))
  pub work_left : work' ≡ replicate (length work) 0
  pub bitmap_left : bitmap' ≡ left_in (answer_in (read_of sheet (length work) (length bitmap))) (bitmap_in (sheet_of sheet)) (length bitmap)

-- What the benchmark's entries leave, where the library's own definitions answer an enum.
use Rattle.std.specs.Prelude.{ℕ, ◌≡◌, List, [], ◌∷◌, length, replicate}
use Rattle.refusal.specs.Answer.{left_in}
use Rattle.sheet.specs.Sheet.{sheet_of}
use Rattle.sheet.specs.Promise.{read_of, bitmap_in, answer_in}
use Rattle.text.specs.Text.{bytes_of, Put}
use Rattle.lines.specs.Start.{first_line, told_of}

-- what is told of a board: the height, the bitmap's length and the offset of the first record after the joints; zeros where nothing is
abbrev pub or_zeros : List ℕ → List ℕ
or_zeros [] = 0 ∷ 0 ∷ 0 ∷ []
or_zeros (x ∷ told) = x ∷ told

-- the first line of a sheet's report is put, with what is told of the board; the bitmap is left in its list, and the work list with zeros
pub record Begun (sheet work bitmap out : List ℕ) (end : ℕ) (told work' bitmap' out' : List ℕ) : Type 0 where
  pub text : Put (bytes_of (first_line (read_of sheet (length work) (length bitmap)))) 0 out end out'
  pub values : told ≡ or_zeros (told_of (read_of sheet (length work) (length bitmap)))
  pub work_left : work' ≡ replicate (length work) 0
  pub bitmap_left : bitmap' ≡ left_in (answer_in (read_of sheet (length work) (length bitmap))) (bitmap_in (sheet_of sheet)) (length bitmap)

-- Windows: the stored cells inside one, and what a call that asks for them answers and leaves in its two lists.
use Rattle.std.specs.Prelude.{ℕ, ◌^◌, Bool, ◌&&◌, ◌≡◌, Result, List, map, length, leb, ltb}
use Rattle.refusal.specs.declared.Refusal.{Refusal}
use Rattle.refusal.specs.Results.{answer_of}
use Rattle.refusal.specs.Answer.{Answer, Served, ◌unless◌, ◌then◌, left_in}
use Rattle.order.specs.Order.{keep}
use Rattle.bitmap.specs.Directory.{directory_of, alike}
use Rattle.board.specs.Levels.{Box, joints}
use Rattle.board.specs.Check.{check_of}

-- a lowest and a highest row (top, bottom) and column (left, right), all four inside it
pub record Window : Type 0 where
  pub top : ℕ
  pub bottom : ℕ
  pub left : ℕ
  pub right : ℕ

-- the window of four ends
abbrev pub ends : ℕ → ℕ → ℕ → ℕ → Window
ends top bottom left right = record { top = top; bottom = bottom; left = left; right = right }

-- whether a cell is inside it
unfoldable pub inside : Window → Box → Bool
inside w c = (leb w.top c.row && leb c.row w.bottom) && (leb w.left c.col && leb c.col w.right)

-- the joints inside it, in bitmap order
unfoldable pub found : Window → ℕ → List ℕ → List Box
found w h bytes = keep (inside w) (joints h bytes)

-- both ends are on a board of height h, and the lowest is not above the highest
unfoldable pub ends_fit : ℕ → ℕ → ℕ → Bool
ends_fit h lowest highest = (ltb lowest (2 ^ h) && ltb highest (2 ^ h)) && leb lowest highest

-- so are a window's
abbrev pub window_fits : ℕ → Window → Bool
window_fits h w = ends_fit h w.top w.bottom && ends_fit h w.left w.right

-- so many cells, where both lists have the room for them
unfoldable pub roomed : ℕ → ℕ → ℕ → Answer ℕ
roomed n rows columns = 9 unless (leb n rows && leb n columns) then Served n

-- what a window answers, with so many places for rows and for columns: the check's refusals, 6, 12, 9, and else how many cells are inside
unfoldable pub window_of : ℕ → List ℕ → List ℕ → Window → ℕ → ℕ → Answer ℕ
window_of h bytes directory w rows columns =
    check_of h bytes
    then 6 unless alike directory (directory_of bytes)
    then 12 unless window_fits h w
    then roomed (length (found w h bytes)) rows columns

-- the paper's number and value
abbrev pub window_numbers : Result ℕ Refusal → Answer ℕ
window_numbers = answer_of

-- the row of a cell
abbrev pub row_of : Box → ℕ
row_of c = c.row

-- its column
abbrev pub column_of : Box → ℕ
column_of c = c.col

-- what is returned and left in the two lists, for an answer and the cells that it speaks of
pub record Shown (answer : Answer ℕ) (cells : List Box) (r : Result ℕ Refusal) (rows rows' columns columns' : List ℕ) : Type 0 where
  pub returned : window_numbers r ≡ answer
  pub rows_left : rows' ≡ left_in answer (map row_of cells) (length rows)
  pub columns_left : columns' ≡ left_in answer (map column_of cells) (length columns)

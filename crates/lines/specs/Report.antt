-- The report of a joint sheet: the lines of each record, in the order of the sheet.
use Rattle.std.specs.Prelude.{ℕ, ◌≡◌, ◌+◌, ◌≤◌, List, [], ◌∷◌, ◌++◌, map, length, take, replicate, Result, Ok, Err}
use Rattle.refusal.specs.Answer.{Answer, Served, Refused, left_in}
use Rattle.board.specs.Levels.{Box}
use Rattle.window.specs.Window as window
use Rattle.search.specs.Keys.{row_of, col_of, distance_of}
use Rattle.refusal.specs.declared.Refusal.{Refusal}
use Rattle.seek.specs.declared.answered.Found.{Found}
use Rattle.text.specs.declared.page.Page.{Page}
use Rattle.text.specs.Text.{Line, text_of}
use Rattle.text.specs.Page.{Puts}
use Rattle.text.specs.Lines.{ask_line, at_line, opened_line, win_line, in_lines, no_line}
use Rattle.lines.specs.Limits.{room}
use Rattle.lines.specs.declared.lists.Lists.{Lists}
use Rattle.lines.specs.Lists.{Kept}

-- a page has so much left
abbrev pub Roomy : Page → Type 0
Roomy page = page.at + room ≤ length page.out.now

-- a window's lines, by its answer and the cells inside it
unfoldable pub window_lines : Answer ℕ → List Box → List Line
window_lines (Served n) cells = win_line n ∷ in_lines (map window.row_of cells) (map window.column_of cells)
window_lines (Refused n) cells = no_line n ∷ []

-- the same by what is left in the two lists
unfoldable pub shown_lines : Answer ℕ → List ℕ → List ℕ → List Line
shown_lines (Served n) rows columns = win_line n ∷ in_lines (take n rows) (take n columns)
shown_lines (Refused n) rows columns = no_line n ∷ []

-- the cells of an answer: none after a refusal
abbrev pub cells_in : Result ℕ Refusal → ℕ
cells_in (Ok count) = count
cells_in (Err refusal) = 0

-- the line of a joint found, by its key
abbrev pub key_line : ℕ → Line
key_line key = at_line (row_of key) (col_of key) (distance_of key)

-- a question's lines: K, the keys of the joints found, and the trail
unfoldable pub found_lines : ℕ → List ℕ → List ℕ → List Line
found_lines k found opened = ask_line k (length found) (length opened) ∷ (map key_line found ++ opened_line opened ∷ [])

-- the same by its answer
unfoldable pub ask_lines : Answer (List ℕ) → ℕ → List ℕ → List ℕ → List Line
ask_lines (Served x) k found opened = found_lines k found opened
ask_lines (Refused n) k found opened = no_line n ∷ []

-- a window's lines are put on a page, and this is left in the lists: its rows and columns, and all else as it was
pub record WindowPuts (answer : Answer ℕ) (cells : List Box) (page page' : Page) (lists lists' : Lists) : Type 0 where
  pub text : Puts (text_of (window_lines answer cells)) page page'
  pub kept : Kept lists lists'
  pub rows_left : lists'.rows.now ≡ left_in answer (map window.row_of cells) (length lists.rows.now)
  pub columns_left : lists'.columns.now ≡ left_in answer (map window.column_of cells) (length lists.columns.now)
  pub keys_stay : lists'.keys.now ≡ lists.keys.now
  pub corners_stay : lists'.corners.now ≡ lists.corners.now
  pub trail_stays : lists'.trail.now ≡ lists.trail.now

-- the boxes of an answer: none after a refusal
abbrev pub boxes_in : Result Found Refusal → ℕ
boxes_in (Ok found) = found.boxes
boxes_in (Err refusal) = 0

-- a question's lines are put on a page; the work lists are left with zeros, the trail's list with the trail, and all else as it was
pub record AskPuts (answer : Answer (List ℕ)) (k : ℕ) (found opened : List ℕ) (page page' : Page) (lists lists' : Lists) : Type 0 where
  pub text : Puts (text_of (ask_lines answer k found opened)) page page'
  pub kept : Kept lists lists'
  pub keys_left : lists'.keys.now ≡ replicate (length lists.keys.now) 0
  pub corners_left : lists'.corners.now ≡ replicate (length lists.corners.now) 0
  pub trail_left : lists'.trail.now ≡ left_in answer opened (length lists.trail.now)
  pub rows_stay : lists'.rows.now ≡ lists.rows.now
  pub columns_stay : lists'.columns.now ≡ lists.columns.now

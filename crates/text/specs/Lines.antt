-- The lines of a report, each by its word and its numbers.
use Rattle.std.specs.Prelude.{ℕ, List, [], ◌∷◌}
use Rattle.text.specs.Text.{letters, Line}

-- a refused sheet: the number and the offset
abbrev pub refused_line : ℕ → ℕ → Line
refused_line number offset = record { word = letters "refused"; numbers = number ∷ offset ∷ [] }

-- the board: height, joints, boxes
abbrev pub board_line : ℕ → ℕ → ℕ → Line
board_line height joints boxes = record { word = letters "board"; numbers = height ∷ joints ∷ boxes ∷ [] }

-- a question: K, joints found, boxes opened
abbrev pub ask_line : ℕ → ℕ → ℕ → Line
ask_line k found opened = record { word = letters "ask"; numbers = k ∷ found ∷ opened ∷ [] }

-- a joint found: row, column, squared distance
abbrev pub at_line : ℕ → ℕ → ℕ → Line
at_line row column distance = record { word = letters "at"; numbers = row ∷ column ∷ distance ∷ [] }

-- the trail
abbrev pub opened_line : List ℕ → Line
opened_line trail = record { word = letters "opened"; numbers = trail }

-- a window: the count
abbrev pub win_line : ℕ → Line
win_line count = record { word = letters "win"; numbers = count ∷ [] }

-- a joint inside it: row, column
abbrev pub in_line : ℕ → ℕ → Line
in_line row column = record { word = letters "in"; numbers = row ∷ column ∷ [] }

-- the joints inside it, by their rows and columns
unfoldable pub in_lines : List ℕ → List ℕ → List Line
in_lines [] columns = []
in_lines (r ∷ rows) [] = []
in_lines (r ∷ rows) (c ∷ columns) = in_line r c ∷ in_lines rows columns

-- a refused question or window: the number
abbrev pub no_line : ℕ → Line
no_line number = record { word = letters "no"; numbers = number ∷ [] }

-- the last line
abbrev pub end_line : Line
end_line = record { word = letters "end"; numbers = [] }

-- What building a board answers, in the order of document 01: 1, 20, 12, 10, 5, 18.
use Rattle.std.specs.Prelude.{ℕ, Bool, true, ◌&&◌, List, [], ◌∷◌, map, length, leb, eqb}
use Rattle.refusal.specs.Answer.{Answer, Served, ◌unless◌, ◌then◌}
use Rattle.board.specs.Limits.{max_height, max_joints}
use Rattle.board.specs.Levels.{Box, groups}
use Rattle.board.specs.Code.{code_of}
use Rattle.board.specs.Member.{on_board}
use Rattle.build.specs.Build.{once_each, bitmap_of_codes}

-- the cells of a row list and a column list, place by place
unfoldable pub cells_of : List ℕ → List ℕ → List Box
cells_of [] columns = []
cells_of (r ∷ rows) [] = []
cells_of (r ∷ rows) (c ∷ columns) = record { row = r; col = c } ∷ cells_of rows columns

-- every cell is on the board
unfoldable pub all_on : ℕ → List Box → Bool
all_on h [] = true
all_on h (b ∷ bs) = on_board h b.row b.col && all_on h bs

-- what is given can be built from: a height, as many rows as columns, cells on the board, and work room for all that are given
unfoldable pub given_of : ℕ → List ℕ → List ℕ → ℕ → Answer Bool
given_of h rows columns work =
    1 unless (leb 1 h && leb h max_height)
    then 20 unless eqb (length rows) (length columns)
    then 12 unless all_on h (cells_of rows columns)
    then 10 unless leb (length rows) work

-- the joints, the boxes and the length of the bitmap of the cells with these codes, for a room of so many bytes
unfoldable pub codes_built_of : ℕ → List ℕ → ℕ → Answer (List ℕ)
codes_built_of h codes room =
    5 unless leb (length (once_each codes)) max_joints
    then 18 unless leb (length (bitmap_of_codes h codes)) room
    then Served (length (once_each codes) ∷ groups h (bitmap_of_codes h codes) ∷ length (bitmap_of_codes h codes) ∷ [])

-- the same of the cells that are given
unfoldable pub built_of : ℕ → List ℕ → List ℕ → ℕ → ℕ → Answer (List ℕ)
built_of h rows columns work room = given_of h rows columns work then codes_built_of h (map (code_of h) (cells_of rows columns)) room

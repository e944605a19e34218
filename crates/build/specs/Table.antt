-- The sentences of the table "Numbers of refusal" of document 01 that speak of what is given to build. proofs/Exactly.antt has each number given
-- exactly when they say.
use Rattle.std.specs.Prelude.{ℕ, ◌≤◌, ◌<◌, ◌≡◌, List, length, get_or}
use Rattle.board.specs.Table.{HeightServed, CellOn}

-- 20: row list and column list of equal length
abbrev pub AsLong : List ℕ → List ℕ → Type 0
AsLong rows columns = length rows ≡ length columns

-- 12: the cell in place i is on the board
abbrev pub OnAt : ℕ → List ℕ → List ℕ → ℕ → Type 0
OnAt h rows columns i = CellOn h (get_or rows i 0) (get_or columns i 0)

-- 12: every cell is
abbrev pub AllOn : ℕ → List ℕ → List ℕ → Type 0
AllOn h rows columns = (i : ℕ) → i < length rows → OnAt h rows columns i

-- 1, 20, 12 and 10 do not refuse: what is given can be built from, with work room for all that are given
abbrev pub GivenWell : ℕ → List ℕ → List ℕ → ℕ → Type 0
GivenWell h rows columns work = HeightServed h × AsLong rows columns × AllOn h rows columns × (length rows ≤ work)

-- Where the boxes of a level lie.
use Rattle.std.specs.Prelude.{ℕ, ◌/◌, ◌^◌}
use Rattle.board.specs.Levels.{Box}

-- the box with so many levels that has this row and this column
abbrev pub box_from : ℕ → ℕ → ℕ → Box
box_from level row column = record { row = row / 2 ^ level; col = column / 2 ^ level }

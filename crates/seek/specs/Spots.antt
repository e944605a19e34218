-- The box that the code has by its levels, its group, its first row and its first column.
use Rattle.board.specs.Levels.{Box}
use Rattle.seek.specs.declared.spot.Spot.{Spot}
use Rattle.seek.specs.Lying.{box_from}

-- by row and column in its level
abbrev pub box_of : Spot → Box
box_of s = box_from s.level s.row s.column

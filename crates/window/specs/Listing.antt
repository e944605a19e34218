-- How a window's cells are listed: a box by its quarters, and what that does to the row list and the column list.
use Rattle.std.specs.Prelude.{ℕ, ◌+◌, ◌-◌, ◌≤◌, ◌≡◌, List, map, length}
use Rattle.std.proofs.lemmas.List.Edits.{sets}
use Rattle.bitmap.specs.Directory.{directory_of}
use Rattle.order.specs.Order.{keep}
use Rattle.window.specs.declared.Pane.{Pane}
use Rattle.window.specs.declared.Spot.{Spot}
use Rattle.board.specs.Levels.{Box}
use Rattle.board.specs.Under.{Stands, under}
use Rattle.board.specs.Ready.{Ready}
use Rattle.window.specs.Window.{row_of, column_of}
use Rattle.window.specs.Span.{within}

-- what listing boxes does: those within the pane are written from place n on, while there is room, and counted
pub record Listed (p : Pane) (bs : List Box) (n r : ℕ) (rows rows' columns columns' : List ℕ) : Type 0 where
  pub count : r ≡ n + length (keep (within p) bs)
  pub rows_are : rows' ≡ sets rows n (map row_of (keep (within p) bs))
  pub columns_are : columns' ≡ sets columns n (map column_of (keep (within p) bs))

-- the box of a spot
abbrev pub box_of : Spot → Box
box_of s = record { row = s.row; col = s.column }

-- the joints under it; with no level left it is one
abbrev pub under_spot : List ℕ → Spot → List Box
under_spot bytes s = under bytes s.left s.group.0 (box_of s)

-- it is a box, or a joint, of a board that may be asked with its own directory
pub record StoodOn (bytes : List ℕ) (s : Spot) : Type 0 where
  pub height : ℕ
  pub ready : Ready height bytes (directory_of bytes)
  pub tall : s.left ≤ height
  pub stands : Stands bytes (height - s.left) s.group.0 (box_of s)

-- A box by its levels, its first row and its first column.
use Prim.Native.Nat.{ℕ}
use mathlib.Core.Path.{◌≡◌}
use native.Mathlib.Omega.{arith}
use native.Mathlib.Nat.{one-le-pow, mul-div_cancel}
use Rattle.board.specs.Levels.{Box}
use Rattle.keys.specs.Places.{Corner}
use Rattle.seek.specs.Lying.{box_from}

module _ {level row col : ℕ} {b : Box} (at : Corner level row col b) where
  -- its row and its column in its level
  pub corner_box : box_from level row col ≡ b
  corner_box =
      let some = one-le-pow level 2 (omega arith) in
      rw (at.rows, at.columns, mul-div_cancel b.row some, mul-div_cancel b.col some)

  -- so it begins where it lies
  pub corner_begins : Corner level row col (box_from level row col)
  corner_begins = rw corner_box at

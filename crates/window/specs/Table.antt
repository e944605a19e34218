-- The sentence of the table "Numbers of refusal" of document 01 that speaks of a window. proofs/Exactly.antt has each number given exactly when it says.
use Rattle.std.specs.Prelude.{ℕ, ◌≤◌}
use Rattle.board.specs.Table.{CellOn}
use Rattle.window.specs.Window.{Window}

-- 12: the window's ends are on the board, and no lowest is above its highest
abbrev pub WindowOn : ℕ → Window → Type 0
WindowOn h w = CellOn h w.top w.left × CellOn h w.bottom w.right × (w.top ≤ w.bottom) × (w.left ≤ w.right)

-- Spans of rows or columns, and the cells of two of them.
use Rattle.std.specs.Prelude.{ℕ, ◌+◌, ◌*◌, ◌^◌, Bool, ◌&&◌, leb, ltb}
use Rattle.window.specs.declared.Span.{Span}
use Rattle.window.specs.declared.Pane.{Pane}
use Rattle.board.specs.Levels.{Box}
use Rattle.window.specs.Window.{Window}

-- whether a number is in a span
abbrev pub in_span : Span → ℕ → Bool
in_span s x = leb s.from x && ltb x s.past

-- whether a cell is in both spans
unfoldable pub within : Pane → Box → Bool
within p c = in_span p.rows c.row && in_span p.columns c.col

-- whether a box of side 2 ^ k, number x in a row of such boxes, has a row or a column in a span
unfoldable pub meets_span : Span → ℕ → ℕ → Bool
meets_span s k x = ltb s.from (x * 2 ^ k + 2 ^ k) && ltb (x * 2 ^ k) s.past

-- the same cells as those of a window: its highest row and column are among them, the next are not
abbrev pub raised : Window → Pane
raised w = record { rows = record { from = w.top; past = w.bottom + 1 }; columns = record { from = w.left; past = w.right + 1 } }

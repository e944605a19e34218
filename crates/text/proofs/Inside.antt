-- The lines of the joints inside a window: how many there are, and which.
use Prim.Native.Nat.{ℕ, zero, suc, ◌<◌}
use mathlib.Core.Path.{◌≡◌, refl, ap}
use mathlib.Core.List.{List, [], ◌∷◌}
use native.Mathlib.Omega.{arith}
use lib.ListN.{length, get_or}
use Rattle.text.specs.Text.{Line}
use Rattle.text.specs.Lines.{in_line, in_lines}

-- as many as there are rows
pub ins_length : (rows columns : List ℕ) → length rows ≡ length columns → length (in_lines rows columns) ≡ length rows
unfolding in_lines
ins_length [] columns h = refl
ins_length (r ∷ rows) [] h = absurd (omega arith)
ins_length (r ∷ rows) (c ∷ columns) h = ap suc (ins_length rows columns (omega arith))

-- each by its row and column
pub ins_at : (rows columns : List ℕ) (i : ℕ) (d : Line) → length rows ≡ length columns → i < length rows → get_or (in_lines rows columns) i d ≡ in_line (get_or rows i 0) (get_or columns i 0)
unfolding in_lines
ins_at [] columns i d h j = absurd (omega arith)
ins_at (r ∷ rows) [] i d h j = absurd (omega arith)
ins_at (r ∷ rows) (c ∷ columns) zero d h j = refl
ins_at (r ∷ rows) (c ∷ columns) (suc i) d h j = ins_at rows columns i d (omega arith) (omega arith)

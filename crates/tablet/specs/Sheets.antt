-- What building from a sheet returns to C: the number, and five values.
use Rattle.std.specs.Prelude.{ℕ, List, [], ◌∷◌}
use Rattle.sheet.specs.Sheet.{Verdict, Accepted, RefusedAt}

-- 0, or the number of refusal
abbrev pub number_at : Verdict (List ℕ) → ℕ
number_at (Accepted vs) = 0
number_at (RefusedAt n at) = n

-- the height, the joints, the boxes, the bitmap's length and the offset after the joints; after a refusal zeros, and the offset where the sheet is wrong
abbrev pub values_at : Verdict (List ℕ) → List ℕ
values_at (Accepted vs) = vs
values_at (RefusedAt n at) = 0 ∷ 0 ∷ 0 ∷ 0 ∷ at ∷ []

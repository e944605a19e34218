-- The paper's number and values for each case of an answer.
use Rattle.std.specs.Prelude.{ℕ, Result, List, [], ◌∷◌}
use Rattle.refusal.specs.declared.Refusal.{Refusal}
use Rattle.refusal.specs.Answer.{Answer}
use Rattle.refusal.specs.Results.{answer_by}
use Rattle.board.specs.declared.Counts.{Counts}

-- a check: the joints and the boxes
abbrev pub numbers_of : Result Counts Refusal → Answer (List ℕ)
numbers_of = answer_by (λ c. c.joints ∷ c.boxes ∷ [])

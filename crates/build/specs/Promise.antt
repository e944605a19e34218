-- What building promises: its answer in the paper's numbers, and what it leaves in the lists lent to it.
use Rattle.std.specs.Prelude.{ℕ, ◌≡◌, Result, List, [], ◌∷◌, length, replicate}
use Rattle.refusal.specs.declared.Refusal.{Refusal}
use Rattle.refusal.specs.Answer.{Answer, left_in}
use Rattle.refusal.specs.Results.{answer_by}
use Rattle.build.specs.declared.Built.{Built}
use Rattle.build.specs.Build.{bitmap_of}
use Rattle.build.specs.Answers.{cells_of, built_of}

-- a board: the joints, the boxes and the bitmap's length
abbrev pub built_numbers : Result Built Refusal → Answer (List ℕ)
built_numbers = answer_by (λ b. b.joints ∷ b.boxes ∷ b.length ∷ [])

-- this answer, with the bytes and zeros in the bitmap's room, or zeros alone after a refusal; and a work list of zeros
pub record Kept (answer : Answer (List ℕ)) (bytes : List ℕ) (work room : ℕ) (r : Result Built Refusal) (work' bitmap' : List ℕ) : Type 0 where
  pub answered : built_numbers r ≡ answer
  pub work_left : work' ≡ replicate work 0
  pub bitmap_left : bitmap' ≡ left_in answer bytes room

-- of the cells of a row list and a column list
abbrev pub Promise : ℕ → List ℕ → List ℕ → List ℕ → List ℕ → Result Built Refusal → List ℕ → List ℕ → Type 0
Promise h rows columns work bitmap r work' bitmap' =
    Kept (built_of h rows columns (length work) (length bitmap)) (bitmap_of h (cells_of rows columns)) (length work) (length bitmap) r work' bitmap'

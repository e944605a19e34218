-- The promise of a question: what it answers, and what it leaves in each list lent to it.
use Rattle.std.specs.Prelude.{ℕ, ◌≡◌, Result, List, length, replicate, ℤ}
use Rattle.refusal.specs.Answer.{left_in}
use Rattle.search.specs.Question as question
use Rattle.keys.specs.declared.distance.Place.{Place}
use Rattle.nearest.specs.declared.answer.Answer.{Answer}
use Rattle.seek.specs.declared.answered.Found.{Found}
use Rattle.refusal.specs.declared.Refusal.{Refusal}
use Rattle.keys.specs.Places.{place_of}
use Rattle.seek.specs.Told.{found_in}
use Rattle.nearest.specs.Answers.{filled}
use Rattle.nearest.specs.Promise.{Rooms, nearest_of, numbers_of}

-- the place that a row and a column name
abbrev pub place_at : ℤ → ℤ → Place
place_at row column = record { row = row; column = column }

-- the lists lent to a question: for the answer, for the work, for the trail
pub record Lent : Type 0 where
  pub answers : List Answer
  pub keys : List ℕ
  pub corners : List ℕ
  pub trail : List ℕ

-- their rooms
abbrev pub rooms : Lent → Rooms
rooms l = record { answers = length l.answers; keys = length l.keys; corners = length l.corners; trail = length l.trail }

-- answered with the paper's number and values; the joints found in order, the trail, and zeros after both; the work lists all zeros
pub record Kept (h : ℕ) (bytes d : List ℕ) (row column : ℤ) (k : ℕ) (was : Lent) (r : Result Found Refusal) (is : Lent) : Type 0 where
  pub number : numbers_of r ≡ nearest_of h bytes d (place_at row column) k (rooms was)
  pub answers : is.answers ≡ filled (found_in (nearest_of h bytes d (place_at row column) k (rooms was)) (question.answer_keys (place_of (place_at row column)) h bytes k)) (length was.answers)
  pub trail : is.trail ≡ left_in (nearest_of h bytes d (place_at row column) k (rooms was)) (question.trail (place_of (place_at row column)) h bytes k) (length was.trail)
  pub keys : is.keys ≡ replicate (length was.keys) 0
  pub corners : is.corners ≡ replicate (length was.corners) 0

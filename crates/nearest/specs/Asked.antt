-- A question without its answer list.
use Rattle.std.specs.Prelude.{ℕ, ◌≡◌, Result, List, length, replicate}
use Rattle.refusal.specs.Answer.{left_in}
use Rattle.search.specs.Question.{answer_keys, trail}
use Rattle.keys.specs.declared.distance.Place.{Place}
use Rattle.seek.specs.declared.answered.Found.{Found}
use Rattle.refusal.specs.declared.Refusal.{Refusal}
use Rattle.keys.specs.Places.{place_of}
use Rattle.seek.specs.Told.{found_in, handed_out}
use Rattle.nearest.specs.Promise.{Rooms, nearest_of, numbers_of}

-- the rooms of lists
abbrev pub rooms_of : ℕ → List ℕ → List ℕ → List ℕ → Rooms
rooms_of answers keys corners trail = record { answers = answers; keys = length keys; corners = length corners; trail = length trail }

-- answered as is promised; the keys of the joints found are handed out, and the other lists are left as is promised
pub record Asked (h : ℕ) (bytes d : List ℕ) (p : Place) (k answers : ℕ) (keys corners trailList : List ℕ) (r : Result Found Refusal) (keys' corners' trail' : List ℕ) : Type 0 where
  pub number : numbers_of r ≡ nearest_of h bytes d p k (rooms_of answers keys corners trailList)
  pub keys_left : keys' ≡ handed_out (found_in (nearest_of h bytes d p k (rooms_of answers keys corners trailList)) (answer_keys (place_of p) h bytes k)) (length keys)
  pub corners_left : corners' ≡ replicate (length corners) 0
  pub trail_left : trail' ≡ left_in (nearest_of h bytes d p k (rooms_of answers keys corners trailList)) (trail (place_of p) h bytes k) (length trailList)

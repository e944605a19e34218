-- What a question is answered, in the paper's numbers and order, and what it leaves in the lists lent to it.
use Rattle.std.specs.Prelude.{ℕ, max, Bool, true, ◌&&◌, Result, Ok, Err, List, [], ◌∷◌, length, leb}
use Rattle.refusal.specs.declared.Refusal.{Refusal}
use Rattle.refusal.specs.Answer.{Answer, Served, ◌unless◌, ◌then◌}
use Rattle.refusal.specs.Results.{answer_by}
use Rattle.bitmap.specs.Directory.{directory_of, alike}
use Rattle.board.specs.Levels.{joints}
use Rattle.board.specs.Check.{check_of}
use Rattle.search.specs.Question.{answer_keys, trail}
use Rattle.keys.specs.declared.distance.Place.{Place}
use Rattle.seek.specs.declared.answered.Found.{Found}
use Rattle.keys.specs.Places.{place_of, in_range}

-- the most joints that a question may ask for
abbrev pub max_wanted : ℕ
max_wanted = 255

-- the rooms of the lists that a question lends: answers, keys, corners, trail
pub record Rooms : Type 0 where
  pub answers : ℕ
  pub keys : ℕ
  pub corners : ℕ
  pub trail : ℕ

-- the places that a work list must have: as many as there are joints, at least 1
abbrev pub work_for : ℕ → List ℕ → ℕ
work_for h bytes = max 1 (length (joints h bytes))

-- the tests of the question itself, each of whose work lists must have so many places: 7, 8, 9, 10
abbrev pub room_of : Place → ℕ → ℕ → Rooms → Answer Bool
room_of p k work r =
    7 unless in_range p
    then 8 unless (leb 1 k && leb k max_wanted)
    then 9 unless leb k r.answers
    then 10 unless (leb work r.keys && leb work r.corners)

-- the answer: the board's refusals, 6, the question's, 11 where the trail does not fit, and else the joints found and the boxes opened
unfoldable pub nearest_of : ℕ → List ℕ → List ℕ → Place → ℕ → Rooms → Answer (List ℕ)
nearest_of h bytes d p k r =
    check_of h bytes
    then 6 unless alike d (directory_of bytes)
    then room_of p k (work_for h bytes) r
    then 11 unless leb (length (trail (place_of p) h bytes k)) r.trail
    then Served (length (answer_keys (place_of p) h bytes k) ∷ length (trail (place_of p) h bytes k) ∷ [])

-- the paper's number and values of a question, and of its tests
abbrev pub numbers_of : Result Found Refusal → Answer (List ℕ)
numbers_of = answer_by (λ found. found.joints ∷ found.boxes ∷ [])

abbrev pub pass_of : Result (Unit {0}) Refusal → Answer Bool
pass_of = answer_by (λ passed. true)

-- the joints of an answer: none after a refusal
abbrev pub joints_of : Result Found Refusal → ℕ
joints_of (Ok found) = found.joints
joints_of (Err refusal) = 0

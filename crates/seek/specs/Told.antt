-- A question that may be searched: what it is told, and what it leaves in the number lists.
use Rattle.std.specs.Prelude.{ℕ, ◌-◌, ◌≤◌, ◌<◌, max, ◌≡◌, Option, None, Some, List, [], ◌∷◌, ◌++◌, reverse, length, replicate, leb}
use Rattle.refusal.specs.Answer.{Answer, Served, Refused, ◌unless◌, ◌then◌, left_in}
use Rattle.board.specs.Levels as board
use Rattle.board.specs.Ready.{Ready}
use Rattle.search.specs.Question.{answer_keys, trail}
use Rattle.keys.specs.declared.distance.Place.{Place}
use Rattle.keys.specs.Places.{place_of, Named}
use Rattle.seek.specs.declared.answered.Found.{Found}

-- a place that may be named, a board that may be asked, a joint wanted, work lists with room
pub record Searchable (h : ℕ) (bytes d : List ℕ) (p : Place) (k keys corners : ℕ) : Type 0 where
  pub named : Named p
  pub ready : Ready h bytes d
  pub some : 0 < k
  pub keys_room : max 1 (length (board.joints h bytes)) ≤ keys
  pub corners_room : max 1 (length (board.joints h bytes)) ≤ corners

-- the answer, with so much room for the trail: 11, or the joints found and the boxes opened
unfoldable pub searched_of : ℕ → List ℕ → Place → ℕ → ℕ → Answer (List ℕ)
searched_of h bytes p k room =
    11 unless leb (length (trail (place_of p) h bytes k)) room
    then Served (length (answer_keys (place_of p) h bytes k) ∷ length (trail (place_of p) h bytes k) ∷ [])

-- the paper's number and values of what the code finds
abbrev pub sought_of : Option Found → Answer (List ℕ)
sought_of (Some found) = Served (found.joints ∷ found.boxes ∷ [])
sought_of None = Refused 11

-- what was found: nothing after a refusal
abbrev pub found_in : Answer (List ℕ) → List ℕ → List ℕ
found_in (Served x) found = found
found_in (Refused n) found = []

-- the keys of the joints found at the end of a list of n places, the first in the last place, and zeros before them
unfoldable pub handed_out : List ℕ → ℕ → List ℕ
handed_out found n = replicate (n - length found) 0 ++ reverse found

-- told is what is promised; the keys of the joints found are handed out, the corners are clear, the trail is in its list
pub record Told (promised : Answer (List ℕ)) (h : ℕ) (bytes : List ℕ) (p : Place) (k : ℕ) (keys corners trailList : List ℕ) (told : Answer (List ℕ)) (keys' corners' trail' : List ℕ) : Type 0 where
  pub number : told ≡ promised
  pub keys_left : keys' ≡ handed_out (found_in promised (answer_keys (place_of p) h bytes k)) (length keys)
  pub corners_left : corners' ≡ replicate (length corners) 0
  pub trail_left : trail' ≡ left_in promised (trail (place_of p) h bytes k) (length trailList)

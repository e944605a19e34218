-- The search of a question: how it begins, and what it finds.
use Rattle.std.specs.Prelude.{ℕ, ◌-◌, ◌≤◌, ◌<◌, max, ◌≡◌, ◌⊎◌, Bool, true, false, List, [], ◌∷◌, ◌++◌, length, replicate}
use Rattle.board.specs.Levels.{joints}
use Rattle.board.specs.Ready.{Ready}
use Rattle.board.specs.Kids.{whole_board}
use Rattle.search.specs.Near.{Place}
use Rattle.search.specs.Entries.{pack_of}
use Rattle.search.specs.Question.{answer_keys, trail}
use Rattle.seek.specs.declared.step.Tally.{Tally}
use Rattle.seek.specs.Pending.{pending_in}
use Rattle.seek.specs.Step.{handed_in}

-- whether another step is to be taken: something is pending, fewer than k joints are handed out, and the trail is no longer than its room
pub record GoesOn (t : Tally) (k room : ℕ) (r : Bool) : Type 0 where
  pub on : r ≡ true → (0 < t.pending) × (t.handed < k) × (t.opened ≤ room)
  pub over : r ≡ false → (t.pending ≡ 0) ⊎ ((k ≤ t.handed) ⊎ (room < t.opened))

-- before the first step: the whole board is pending
pub record Begins (p : Place) (bytes directory : List ℕ) (k : ℕ) (t : Tally) (keys corners trail : List ℕ) : Type 0 where
  pub height : ℕ
  pub ready : Ready height bytes directory
  pub some : 1 ≤ k
  pub fresh : t ≡ record { opened = 0; pending = 1; handed = 0 }
  pub whole : pending_in 1 keys corners ≡ pack_of p (whole_board height) ∷ []
  pub keys_room : max 1 (length (joints height bytes)) ≤ length keys
  pub corners_room : max 1 (length (joints height bytes)) ≤ length corners
  pub clear : trail ≡ replicate (length trail) 0

-- the trail had room: the keys of the answer, and the trail
pub record Reached (p : Place) (h : ℕ) (bytes : List ℕ) (k : ℕ) (t : Tally) (keys trailList : List ℕ) : Type 0 where
  pub opened : t.opened ≡ length (trail p h bytes k)
  pub handed : t.handed ≡ length (answer_keys p h bytes k)
  pub answer : handed_in t.handed keys ≡ answer_keys p h bytes k
  pub in_trail : trailList ≡ trail p h bytes k ++ replicate (length trailList - length (trail p h bytes k)) 0

-- after the last step: the answer and the trail; or more boxes opened than the trail has room for, which is so exactly when the trail is longer
pub record Ends (p : Place) (h : ℕ) (bytes : List ℕ) (k room : ℕ) (t : Tally) (keys corners trailList : List ℕ) (keys_long corners_long : ℕ) : Type 0 where
  pub enough : t.opened ≤ room → Reached p h bytes k t keys trailList
  pub short : room < t.opened → room < length (trail p h bytes k)
  pub keys_are : length keys ≡ keys_long
  pub corners_are : length corners ≡ corners_long
  pub trail_are : length trailList ≡ room
  pub handed_fits : t.handed ≤ length keys

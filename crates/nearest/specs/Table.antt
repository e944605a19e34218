-- The sentences of the table "Numbers of refusal" of document 01 that speak of a question. proofs/Exactly.antt has each number given exactly when they say.
use Rattle.std.specs.Prelude.{ℕ, ◌≤◌, ◌<◌, ◌⊎◌, List, length}
use Rattle.search.specs.Plain.{Joint, FirstJoints, Trail}
use Rattle.keys.specs.declared.distance.Place.{Place}
use Rattle.keys.specs.Places.{place_of}
use Rattle.nearest.specs.Promise.{max_wanted, Rooms, work_for}

-- 7: Places has `Named`: row and column are each from −1,999 to 1,999

-- 8: K is 1 to 255
abbrev pub CountServed : ℕ → Type 0
CountServed k = (1 ≤ k) × (k ≤ max_wanted)

-- 9: the answer list is shorter than K
abbrev pub AnswersShort : ℕ → Rooms → Type 0
AnswersShort k r = r.answers < k

-- 10: a work list is shorter than the joints, at least 1
abbrev pub WorkShort : ℕ → List ℕ → Rooms → Type 0
WorkShort h bytes r = (r.keys < work_for h bytes) ⊎ (r.corners < work_for h bytes)

-- 11: the trail list is shorter than the boxes to be opened for the first K joints
abbrev pub TrailShort : ℕ → List ℕ → Place → ℕ → Rooms → Type 0
TrailShort h bytes p k r = (found : List Joint) × FirstJoints (place_of p) h bytes k found × (boxes : List ℕ) × Trail (place_of p) h bytes k found boxes × (r.trail < length boxes)

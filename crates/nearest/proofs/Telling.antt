-- What a question is told, and that a place of a round is told the same as a single call.
use Prim.Native.Nat.{ℕ, ◌≤◌}
use mathlib.Core.Bool.{Bool, true, ◌&&◌}
use mathlib.Core.Path.{◌≡◌}
use mathlib.Core.List.{List}
use lib.Dec.{leb}
use borrow.Author.Tests.{le-leb}
use Rattle.refusal.specs.Answer.{Answer, Served, Refused}
use Rattle.order.proofs.Cases.{test_cases}
use Rattle.bitmap.specs.Directory.{directory_of, alike}
use Rattle.board.specs.Check.{check_of}
use Rattle.keys.specs.declared.distance.Place.{Place}
use Rattle.keys.specs.Places.{in_range}
use Rattle.seek.specs.Told.{searched_of, Told}
use Rattle.std.specs.Prelude.{Result}
use Rattle.refusal.specs.declared.Refusal.{Refusal}
use Rattle.seek.specs.declared.answered.Found.{Found}
use Rattle.nearest.specs.Promise.{Rooms, max_wanted, work_for, nearest_of, numbers_of}
use Rattle.nearest.specs.Asked.{rooms_of, Asked}
use Rattle.nearest.specs.OnPlace.{on_place, place_room}

-- where the whole round is not refused, a place's answer is the single call's with any answer list that has room for k
pub same_as_single : (h : ℕ) (bytes d : List ℕ) (p : Place) (k : ℕ) (r : Rooms) {x : List ℕ} → check_of h bytes ≡ Served x → alike d (directory_of bytes) ≡ true
    → (leb 1 k && leb k max_wanted) ≡ true → k ≤ r.answers → nearest_of h bytes d p k r ≡ on_place h bytes p k r
unfolding nearest_of on_place searched_of
same_as_single h bytes d p k r board ranked wanted room =
    test_cases (in_range p)
    (λ e. test_cases (leb (work_for h bytes) r.keys && leb (work_for h bytes) r.corners) (λ f. rw (board, ranked, e, wanted, le-leb k r.answers room, f)) (λ f. rw (board, ranked, e, wanted, le-leb k r.answers room, f)))
    (λ e. rw (board, ranked, e))

-- what a question with its promise is told, it is told as one that is asked
pub told_asked : {h : ℕ} {bytes d : List ℕ} {p : Place} {k answers : ℕ} {keys corners trailList : List ℕ} {r : Result Found Refusal} {keys' corners' trail' : List ℕ}
    → Told (nearest_of h bytes d p k (rooms_of answers keys corners trailList)) h bytes p k keys corners trailList (numbers_of r) keys' corners' trail'
    → Asked h bytes d p k answers keys corners trailList r keys' corners' trail'
told_asked t = record { number = t.number; keys_left = t.keys_left; corners_left = t.corners_left; trail_left = t.trail_left }

-- ---- a place of a round

module _ (h : ℕ) (bytes : List ℕ) (p : Place) (k : ℕ) (r : Rooms) where
  -- refused by its tests
  pub place_refused : {m : ℕ} → place_room p (work_for h bytes) r.keys r.corners ≡ Refused m → on_place h bytes p k r ≡ Refused m
  unfolding on_place
  place_refused e = rw e

  -- past its tests it is searched
  pub place_searched : {y : Bool} → place_room p (work_for h bytes) r.keys r.corners ≡ Served y → on_place h bytes p k r ≡ searched_of h bytes p k r.trail
  unfolding on_place
  place_searched e = rw e

-- what a search is told, its place is told
pub told_place : {a b told said : Answer (List ℕ)} {h : ℕ} {bytes : List ℕ} {p : Place} {k : ℕ} {keys corners trailList keys' corners' trail' : List ℕ}
    → a ≡ b → said ≡ told → Told b h bytes p k keys corners trailList told keys' corners' trail' → Told a h bytes p k keys corners trailList said keys' corners' trail'
told_place e f t = rw (e, f) t

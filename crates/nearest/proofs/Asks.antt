-- A question that is asked: from the tests that it passes and the search to its answer.
use Prim.Native.Nat.{ℕ, ◌≤◌, ◌<◌}
use mathlib.Core.Bool.{Bool, true, false, ◌&&◌}
use mathlib.Core.Path.{◌≡◌, refl, sym, ap, ◌∙◌}
use mathlib.Core.List.{List, [], ◌∷◌}
use lib.ListN.{length}
use lib.Dec.{leb}
use lib.IntN.{nat_abs}
use borrow.Author.Tests.{leb-true}
use Rattle.refusal.proofs.Tests.{both}
use Rattle.refusal.specs.Answer.{Answer, Served, Refused, ◌unless◌, ◌then◌}
use Rattle.refusal.proofs.Answers.{not_both, passed, went_on}
use Rattle.bitmap.specs.Directory.{directory_of, alike}
use Rattle.bitmap.proofs.Directory.{alike_true}
use Rattle.board.specs.Limits.{max_height, max_joints, max_place}
use Rattle.board.specs.Levels.{joints, groups}
use Rattle.board.specs.Check.{check_of, first_fault, faults, enough}
use Rattle.board.specs.Ready.{Ready}
use Rattle.board.proofs.Valid.{Sound, served_valid}
use Rattle.search.specs.Question.{answer_keys, trail}
use Rattle.keys.specs.declared.distance.Place.{Place}
use Rattle.keys.specs.Places.{place_of, in_range, Named}
use Rattle.seek.specs.Told.{searched_of}
use Rattle.nearest.specs.Promise.{max_wanted, Rooms, work_for, room_of, nearest_of}

-- what is served is one thing
same_served : {A : Type 0} {x y : A} → Served x ≡ Served y → y ≡ x
same_served {x = x} {y = y} e = cc

-- the check serves the joints and the groups
check_serves : (h : ℕ) (bytes : List ℕ) {x : List ℕ} → check_of h bytes ≡ Served x → x ≡ length (joints h bytes) ∷ groups h bytes ∷ []
unfolding check_of
check_serves h bytes e =
    let one = passed 1 (leb 1 h && leb h max_height) _ e in
    let two = went_on (first_fault bytes (faults h bytes)) _ one.1 in
    let four = passed 4 (enough bytes (groups h bytes)) _ two.2 in
    let five = passed 5 (leb (length (joints h bytes)) max_joints) _ four.1 in
    same_served five.1

-- a board that it serves is sound
pub board_sound : (h : ℕ) (bytes : List ℕ) {x : List ℕ} → check_of h bytes ≡ Served x → Sound h bytes (length (joints h bytes)) (groups h bytes)
board_sound h bytes e = served_valid h bytes (length (joints h bytes)) (groups h bytes) (e ∙ ap Served (check_serves h bytes e))

-- tests, and then what is answered past them
tests_first : {A B : Type 0} (a : Answer A) (n : ℕ) (t : Bool) (q : Answer Bool) (rest : Answer B) → ((a then n unless t then q) then rest) ≡ (a then n unless t then q then rest)
tests_first (Served x) n true q rest = refl
tests_first (Served x) n false q rest = refl
tests_first (Refused l) n t q rest = refl

-- it passed each
pub record Passes {A : Type 0} (a : Answer A) (t : Bool) (q : Answer Bool) : Type 0 where
  pub value : A
  pub first : a ≡ Served value
  pub tested : t ≡ true
  pub asked : q ≡ Served true

pub pass_served : {A : Type 0} (a : Answer A) (n : ℕ) (t : Bool) (q : Answer Bool) → (a then n unless t then q) ≡ Served true → Passes a t q
pass_served (Served x) n true q e = record { value = x; first = refl; tested = refl; asked = e }
pass_served (Served x) n false q e = absurd (not_both e)
pass_served (Refused l) n t q e = absurd (not_both e)

-- what a question that may be asked has shown
pub record May (h : ℕ) (bytes d : List ℕ) (p : Place) (k : ℕ) (r : Rooms) : Type 0 where
  pub named : Named p
  pub ready : Ready h bytes d
  pub some : 0 < k
  pub few : k ≤ max_wanted
  pub answers : k ≤ r.answers
  pub keys : work_for h bytes ≤ r.keys
  pub corners : work_for h bytes ≤ r.corners

-- the last test alone
pub only : (n : ℕ) (t : Bool) {y : Bool} → (n unless t) ≡ Served y → t ≡ true
only n true e = refl
only n false e = absurd (not_both e)

module _ (h : ℕ) (bytes d : List ℕ) (p : Place) (k : ℕ) (r : Rooms) where
  -- the board's tests and the question's
  abbrev pub pass_of' : Answer Bool
  pass_of' = check_of h bytes then 6 unless alike d (directory_of bytes) then room_of p k (work_for h bytes) r

  -- what the tests show
  may : {x : List ℕ} {y : Bool} → check_of h bytes ≡ Served x → alike d (directory_of bytes) ≡ true → room_of p k (work_for h bytes) r ≡ Served y → May h bytes d p k r
  may board ranked room =
      let s = board_sound h bytes board in
      let seven = passed 7 (in_range p) _ room in
      let eight = passed 8 (leb 1 k && leb k max_wanted) _ seven.1 in
      let nine = passed 9 (leb k r.answers) _ eight.1 in
      let ten = both (leb (work_for h bytes) r.keys) (leb (work_for h bytes) r.corners) (only 10 _ nine.1) in
      let place = both (leb (nat_abs p.row) max_place) (leb (nat_abs p.column) max_place) seven.0 in
      let wanted = both (leb 1 k) (leb k max_wanted) eight.0 in
      record {
        named = record { row = leb-true _ _ place.0; column = leb-true _ _ place.1 };
        ready = record { valid = s.valid; low = s.low; few = s.few; ranked = alike_true d (directory_of bytes) ranked };
        some = leb-true _ _ wanted.0;
        few = leb-true _ _ wanted.1;
        answers = leb-true _ _ nine.0;
        keys = leb-true _ _ ten.0;
        corners = leb-true _ _ ten.1;
      }

  -- a question that passes them may be asked
  pub may_ask : pass_of' ≡ Served true → May h bytes d p k r
  may_ask e = let q = pass_served (check_of h bytes) 6 (alike d (directory_of bytes)) (room_of p k (work_for h bytes) r) e in may q.first q.tested q.asked

  -- one that is served passed them, and its answer and its trail are so long
  pub served_may : {j g : ℕ} → nearest_of h bytes d p k r ≡ Served (j ∷ g ∷ [])
      → May h bytes d p k r × (length (answer_keys (place_of p) h bytes k) ≡ j) × (length (trail (place_of p) h bytes k) ≡ g)
  unfolding nearest_of
  served_may e =
      let board = went_on (check_of h bytes) _ e in
      let six = passed 6 (alike d (directory_of bytes)) _ board.2 in
      let room = went_on (room_of p k (work_for h bytes) r) _ six.1 in
      let eleven = passed 11 (leb (length (trail (place_of p) h bytes k)) r.trail) _ room.2 in
      (may board.1 six.0 room.1, cc eleven.1, cc eleven.1)

  -- the tests, and then the search
  pub nearest_searched : nearest_of h bytes d p k r ≡ (pass_of' then searched_of h bytes p k r.trail)
  unfolding nearest_of searched_of
  nearest_searched = sym (tests_first (check_of h bytes) 6 (alike d (directory_of bytes)) (room_of p k (work_for h bytes) r) _)

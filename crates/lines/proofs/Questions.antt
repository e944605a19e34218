-- What a question's answer says of its trail, and the lines that are put for it.
use Prim.Native.Nat.{ℕ, ◌≤◌}
use mathlib.Core.Path.{◌≡◌, sym}
use mathlib.Core.List.{List, [], ◌∷◌}
use native.Mathlib.Omega.{arith}
use lib.Dec.{leb}
use lib.ListN.{length, take}
use borrow.Author.Tests.{leb-true}
use Rattle.refusal.specs.Answer.{Served, ◌unless◌, ◌then◌}
use Rattle.refusal.proofs.Answers.{passed, went_on}
use Rattle.bitmap.specs.Directory.{directory_of, alike}
use Rattle.board.specs.Check.{check_of}
use Rattle.search.specs.Question.{answer_keys, trail}
use Rattle.keys.specs.declared.distance.Place.{Place}
use Rattle.std.specs.Prelude.{Result, Ok, Err}
use Rattle.refusal.specs.declared.Refusal.{Refusal}
use Rattle.seek.specs.declared.answered.Found.{Found}
use Rattle.keys.specs.Places.{place_of}
use Rattle.seek.specs.Step.{handed_in}
use Rattle.nearest.specs.Promise.{Rooms, work_for, room_of, nearest_of, numbers_of, joints_of}
use Rattle.nearest.specs.Asked.{rooms_of, Asked}
use Rattle.nearest.proofs.Handing.{asked_shows}
use Rattle.lines.specs.Limits.{max_answers}
use Rattle.lines.specs.Report.{boxes_in, ask_lines}
use Rattle.lines.proofs.Windows.{left_begins}

-- the boxes opened are the trail, and it has room
nearest_served : (h : ℕ) (bytes d : List ℕ) (p : Place) (k : ℕ) (r : Rooms) (j b : ℕ) → nearest_of h bytes d p k r ≡ Served (j ∷ b ∷ []) → (b ≡ length (trail (place_of p) h bytes k)) × (b ≤ r.trail)
unfolding nearest_of
nearest_served h bytes d p k r j b e =
    let way = trail (place_of p) h bytes k in
    let last = 11 unless leb (length way) r.trail then Served (length (answer_keys (place_of p) h bytes k) ∷ length way ∷ []) in
    let room = room_of p k (work_for h bytes) r in
    let checked = went_on (check_of h bytes) (6 unless alike d (directory_of bytes) then room then last) e in
    let ranked = passed 6 (alike d (directory_of bytes)) (room then last) checked.2 in
    let roomy = went_on room last ranked.1 in
    let fits = passed 11 (leb (length way) r.trail) (Served (length (answer_keys (place_of p) h bytes k) ∷ length way ∷ [])) roomy.2 in
    let same : b ≡ length way = cc in
    (same, omega (arith, leb-true (length way) r.trail fits.0))

-- the keys of the joints found, and the trail in its list, are what the question is answered
pub asked_lines : (h : ℕ) (bytes d : List ℕ) (p : Place) (k : ℕ) (keys corners trailList : List ℕ) (answer : Result Found Refusal) (keys' corners' trail' : List ℕ)
    → Asked h bytes d p k max_answers keys corners trailList answer keys' corners' trail'
    → (boxes_in answer ≤ length trailList)
    × (ask_lines (numbers_of answer) k (handed_in (joints_of answer) keys') (take (boxes_in answer) trail') ≡ ask_lines (nearest_of h bytes d p k (rooms_of max_answers keys corners trailList)) k (answer_keys (place_of p) h bytes k) (trail (place_of p) h bytes k))
unfolding ask_lines
asked_lines h bytes d p k keys corners trailList (Ok answered) keys' corners' trail' asked =
    let j = answered.joints in
    let b = answered.boxes in
    let way = trail (place_of p) h bytes k in
    let served = sym asked.number in
    let room = nearest_served h bytes d p k (rooms_of max_answers keys corners trailList) j b served in
    let found : handed_in j keys' ≡ answer_keys (place_of p) h bytes k = rw served at (asked_shows asked).found in
    let opened : take b trail' ≡ way = rw (asked.trail_left, served) (left_begins (j ∷ b ∷ []) b way (length trailList) room.0) in
    (room.1, rw (served, found, opened))
asked_lines h bytes d p k keys corners trailList (Err refusal) keys' corners' trail' asked = (omega arith, rw (← asked.number))

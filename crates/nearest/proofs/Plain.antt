-- What a question leaves, without keys. Served: the first K joints stand in the answer list and the boxes opened for them in the trail list, each with zeros
-- after them. Refused: zeros.
use Prim.Native.Nat.{ℕ, ◌-◌}
use mathlib.Core.Path.{◌≡◌, sym, ap, ◌∙◌}
use mathlib.Core.List.{List, [], ◌∷◌, map, map-map}
use native.Mathlib.Omega.{arith}
use lib.ListN.{length, take, drop, replicate, length-map}
use lib.Seq.{take_at, drop_at}
use lib.IntN.{ℤ}
use Rattle.refusal.specs.declared.Refusal.{Refusal}
use Rattle.refusal.specs.Answer.{Served, left_in}
use Rattle.search.specs.Near as near
use Rattle.search.specs.Question as question
use Rattle.search.specs.Plain.{FirstJoints, Trail}
use Rattle.search.proofs.PlainJoints.{answer_in}
use Rattle.search.proofs.Plain.{answer_plain, trail_plain}
use Rattle.nearest.specs.declared.answer.Answer.{Answer}
use Rattle.std.specs.Prelude.{Ok, Err}
use Rattle.seek.specs.declared.answered.Found.{Found}
use Rattle.keys.specs.Places.{place_of}
use Rattle.nearest.specs.Answers.{zero_answer, answer_of, filled}
use Rattle.nearest.specs.Kept.{place_at, Lent, rooms, Kept}
use Rattle.nearest.specs.Plain.{joint_of, Plainly}
use Rattle.seek.proofs.Going.{ready_sound}
use Rattle.nearest.proofs.Asks.{served_may}

-- what a question that is served leaves, without keys
pub kept_plain : {h : ℕ} {bytes d : List ℕ} {row column : ℤ} {k : ℕ} {was is : Lent} {found : Found} → Kept h bytes d row column k was (Ok found) is
    → Plainly h bytes (place_of (place_at row column)) k found.joints found.boxes was is
unfolding filled left_in
kept_plain {h} {bytes} {d} {row} {column} {k} {was} {is} {found = it} kept =
    let e = sym kept.number in
    let may = served_may h bytes d (place_at row column) k (rooms was) e in
    let sound = ready_sound may.0.ready in
    let keys = question.answer_keys p h bytes k in
    let boxes = question.trail p h bytes k in
    go keys boxes may.1 may.2 (rw e at kept.answers) (rw e at kept.trail) (answer_plain p h bytes sound k) (trail_plain p h bytes sound k may.0.some)
  where
    j : ℕ
    j = it.joints

    g : ℕ
    g = it.boxes

    p : near.Place
    p = place_of (place_at row column)

    go : (keys boxes : List ℕ) → length keys ≡ j → length boxes ≡ g → is.answers ≡ filled keys (length was.answers) → is.trail ≡ left_in (Served (j ∷ g ∷ [])) boxes (length was.trail)
        → FirstJoints p h bytes k (map answer_in keys) → Trail p h bytes k (map answer_in keys) boxes → Plainly h bytes p k j g was is
    go keys boxes m n a t first way =
        let long : length (map answer_of keys) ≡ j = length-map keys answer_of ∙ m in
        let found : map joint_of (take j is.answers) ≡ map answer_in keys = ap (λ (l : List Answer). map joint_of (take j l)) a ∙ ap (map joint_of) (take_at (map answer_of keys) _ j long) ∙ map-map joint_of answer_of keys in
        let opened : take g is.trail ≡ boxes = ap (take g) t ∙ take_at boxes _ g n in
        record {
          first_joints = rw found first;
          trail = rw (found, opened) way;
          answers_after = ap (drop j) a ∙ drop_at (map answer_of keys) _ j long ∙ ap (λ (i : ℕ). replicate (length was.answers - i) zero_answer) m;
          trail_after = ap (drop g) t ∙ drop_at boxes _ g n ∙ ap (λ (i : ℕ). replicate (length was.trail - i) 0) n;
        }

-- after a refusal the answer list and the trail list are all zero; the work lists always are
pub refused_zeros : {h : ℕ} {bytes d : List ℕ} {row column : ℤ} {k : ℕ} {was is : Lent} {f : Refusal} → Kept h bytes d row column k was (Err f) is
    → (is.answers ≡ replicate (length was.answers) zero_answer) × (is.trail ≡ replicate (length was.trail) 0)
unfolding filled left_in
refused_zeros {was = was} kept =
    let e = sym kept.number in
    let all : length was.answers - 0 ≡ length was.answers = omega arith in
    (rw all at (rw e at kept.answers), rw e at kept.trail)

-- Of two served questions of one board and one place: the shorter answer is the beginning of the longer, and the shorter trail of the longer trail.
use Prim.Native.Nat.{ℕ, ◌≤◌}
use mathlib.Core.Path.{◌≡◌, sym, ap, ◌∙◌}
use mathlib.Core.List.{List, map}
use lib.ListN.{take, length-map}
use lib.Seq.{take_at}
use lib.IntN.{ℤ}
use Rattle.refusal.specs.Answer.{left_in}
use Rattle.search.specs.Question as question
use Rattle.search.specs.Plain.{Starts}
use Rattle.search.proofs.Longer.{starts_map, answer_starts, trail_starts}
use Rattle.std.specs.Prelude.{Ok}
use Rattle.seek.specs.declared.answered.Found.{Found}
use Rattle.keys.specs.Places.{place_of}
use Rattle.nearest.specs.Answers.{answer_of, filled}
use Rattle.nearest.specs.Kept.{place_at, Lent, rooms, Kept}
use Rattle.seek.proofs.Going.{ready_sound}
use Rattle.nearest.proofs.Asks.{served_may}

module _ {h : ℕ} {bytes d : List ℕ} {row column : ℤ} {k : ℕ} {was is : Lent} {found : Found} (kept : Kept h bytes d row column k was (Ok found) is) where
  -- the records found are those of the answer's keys
  pub kept_answers : take found.joints is.answers ≡ map answer_of (question.answer_keys (place_of (place_at row column)) h bytes k)
  unfolding filled
  kept_answers =
      let e = sym kept.number in
      let may = served_may h bytes d (place_at row column) k (rooms was) e in
      let keys = question.answer_keys (place_of (place_at row column)) h bytes k in
      ap (take found.joints) (rw e at kept.answers) ∙ take_at (map answer_of keys) _ found.joints (length-map keys answer_of ∙ may.1)

  -- the boxes opened are the trail
  pub kept_trail : take found.boxes is.trail ≡ question.trail (place_of (place_at row column)) h bytes k
  unfolding left_in
  kept_trail =
      let e = sym kept.number in
      let may = served_may h bytes d (place_at row column) k (rooms was) e in
      ap (take found.boxes) (rw e at kept.trail) ∙ take_at (question.trail (place_of (place_at row column)) h bytes k) _ found.boxes may.2

-- what a question found is the beginning of what another found
pub record Continued (found : Found) (is : Lent) (found' : Found) (is' : Lent) : Type 0 where
  pub answers : Starts (take found.joints is.answers) (take found'.joints is'.answers)
  pub trail : Starts (take found.boxes is.trail) (take found'.boxes is'.trail)

-- a longer list never contradicts a shorter one
pub longer : {h : ℕ} {bytes d d' : List ℕ} {row column : ℤ} {k k' : ℕ} {was is was' is' : Lent} {found found' : Found} → k ≤ k'
    → Kept h bytes d row column k was (Ok found) is → Kept h bytes d' row column k' was' (Ok found') is' → Continued found is found' is'
longer {h} {bytes} {d} {row = row} {column = column} {k = k} {k' = k'} {was = was} le a b =
    let may = served_may h bytes d (place_at row column) k (rooms was) (sym a.number) in
    let p = place_of (place_at row column) in
    record {
      answers = rw (kept_answers a, kept_answers b) (starts_map answer_of (answer_starts p h bytes k k' le));
      trail = rw (kept_trail a, kept_trail b) (trail_starts p h bytes (ready_sound may.0.ready) k k' may.0.some le);
    }

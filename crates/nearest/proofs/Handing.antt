-- The keys of the joints found: how a search leaves them at the end of the keys, and what a question that is asked hands out.
use Prim.Native.Nat.{ℕ, suc, ◌-◌, ◌≤◌}
use mathlib.Core.Path.{◌≡◌, refl, sym, ap, ◌∙◌}
use mathlib.Core.List.{List, ◌++◌, reverse, reverse-reverse}
use native.Mathlib.Omega.{arith}
use lib.ListN.{length, get_or, drop, replicate, length-append, length-replicate, length-reverse, length-map}
use lib.Seq.{drop_at}
use Rattle.refusal.specs.declared.Refusal.{Refusal}
use Rattle.order.proofs.Bag.{each_get_d}
use Rattle.board.specs.Limits.{max_height}
use Rattle.board.specs.Levels.{joints}
use Rattle.board.specs.Ready.{Ready}
use Rattle.search.specs.Question.{answer_keys}
use Rattle.search.proofs.PlainJoints.{answer_in}
use Rattle.search.proofs.Plain.{answer_plain}
use Rattle.search.proofs.Distances.{answer_near, answer_few}
use Rattle.keys.specs.declared.distance.Place.{Place}
use Rattle.std.specs.Prelude.{Result, Ok, Err}
use Rattle.seek.specs.declared.answered.Found.{Found}
use Rattle.keys.specs.Places.{place_of, Named}
use Rattle.seek.specs.Step.{handed_in}
use Rattle.seek.specs.Told.{found_in, handed_out}
use Rattle.nearest.specs.Answers.{Handed}
use Rattle.nearest.specs.Promise.{nearest_of, joints_of}
use Rattle.nearest.specs.Asked.{rooms_of, Asked}
use Rattle.nearest.proofs.Answering.{handed_at}
use Rattle.seek.proofs.Going.{ready_sound}
use Rattle.seek.proofs.Telling.{handed_last, none_out}
use Rattle.nearest.proofs.Asks.{served_may}

-- ---- at the end of a list

-- a list with keys handed out is as long as it was
length_out : (found : List ℕ) (n : ℕ) → length found ≤ n → length (handed_out found n) ≡ n
unfolding handed_out
length_out found n room = length-append (replicate (n - length found) 0) (reverse found) ∙ omega (arith, length-replicate {A = ℕ} (n - length found) 0, length-reverse found)

-- and has them at its end
handed_in_out : (found : List ℕ) (n : ℕ) → length found ≤ n → handed_in (length found) (handed_out found n) ≡ found
unfolding handed_out
handed_in_out found n room =
    let zeros = replicate {A = ℕ} (n - length found) 0 in
    let long = length_out found n room in
    let last : drop (n - length found) (zeros ++ reverse found) ≡ reverse (handed_in (length found) (zeros ++ reverse found)) = rw long at (handed_last (length found) (zeros ++ reverse found) (omega (arith, long))) in
    sym (reverse-reverse (handed_in (length found) (zeros ++ reverse found))) ∙ ap reverse (sym last ∙ drop_at zeros (reverse found) (n - length found) (length-replicate {A = ℕ} (n - length found) 0)) ∙ reverse-reverse found

-- ---- of an answer

-- no more than there are joints
answer_joints : (p : Place) {h : ℕ} {bytes d : List ℕ} (k : ℕ) → Ready h bytes d → length (answer_keys (place_of p) h bytes k) ≤ length (joints h bytes)
answer_joints p {h} {bytes} k ready = omega (arith, length-map (answer_keys (place_of p) h bytes k) answer_in, (answer_plain (place_of p) h bytes (ready_sound ready) k).many)

-- each has a distance that a record holds
handed_small : (p : Place) (h : ℕ) (bytes : List ℕ) (k : ℕ) {n : ℕ} {keys : List ℕ} → Named p → h ≤ max_height → n ≤ length keys → n ≡ length (answer_keys (place_of p) h bytes k) → handed_in n keys ≡ answer_keys (place_of p) h bytes k → Handed n keys
handed_small p h bytes k {n} {keys} named low room many same =
    record {
      room = room;
      small = λ i lt.
          let e : get_or (answer_keys (place_of p) h bytes k) i 0 ≡ get_or keys (length keys - suc i) 0 = ap (λ (l : List ℕ). get_or l i 0) (sym same) ∙ handed_at n keys i lt in
          omega (arith, rw e at (each_get_d i 0 (answer_near (place_of p) named.row named.column h bytes k low) (omega arith)));
    }

-- what the lists of a question that is asked show: the joints found, each with its distance, as long as there were keys
pub record Shows (h : ℕ) (bytes d : List ℕ) (p : Place) (k answers : ℕ) (keys corners trailList : List ℕ) (r : Result Found Refusal) (keys' : List ℕ) : Type 0 where
  pub handed : Handed (joints_of r) keys'
  pub found : handed_in (joints_of r) keys' ≡ found_in (nearest_of h bytes d p k (rooms_of answers keys corners trailList)) (answer_keys (place_of p) h bytes k)
  pub fits : joints_of r ≤ answers
  pub keys_long : length keys' ≡ length keys

module _ {h : ℕ} {bytes d : List ℕ} {p : Place} {k answers : ℕ} {keys corners trailList : List ℕ} where
  pub asked_shows : {r : Result Found Refusal} {keys' corners' trail' : List ℕ} → Asked h bytes d p k answers keys corners trailList r keys' corners' trail' → Shows h bytes d p k answers keys corners trailList r keys'
  unfolding handed_in
  asked_shows {r = Ok it} {keys'} s =
      let e = sym s.number in
      let may = served_may h bytes d p k (rooms_of answers keys corners trailList) e in
      let room : length (answer_keys (place_of p) h bytes k) ≤ length keys = omega (arith, answer_joints p k may.0.ready, may.0.keys) in
      let left : keys' ≡ handed_out (answer_keys (place_of p) h bytes k) (length keys) = rw e at s.keys_left in
      let long : length keys' ≡ length keys = ap length left ∙ length_out (answer_keys (place_of p) h bytes k) (length keys) room in
      let found : handed_in it.joints keys' ≡ answer_keys (place_of p) h bytes k = rw (left, ← may.1) (handed_in_out (answer_keys (place_of p) h bytes k) (length keys) room) in
      record {
        handed = handed_small p h bytes k may.0.named may.0.ready.low (omega (arith, long, may.1)) (sym may.1) found;
        found = rw e found;
        fits = omega (arith, may.1, answer_few (place_of p) h bytes k, may.0.answers);
        keys_long = long;
      }
  asked_shows {r = Err f} {keys'} s =
      let e = sym s.number in
      let left : keys' ≡ replicate (length keys) 0 = rw e at s.keys_left ∙ none_out (length keys) in
      record {
        handed = record { room = omega arith; small = λ i lt. absurd (omega arith) };
        found = rw e refl;
        fits = omega arith;
        keys_long = ap length left ∙ length-replicate {A = ℕ} (length keys) 0;
      }

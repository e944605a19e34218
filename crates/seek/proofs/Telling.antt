-- What a question that may be searched is told, from what its search leaves.
use Prim.Native.Nat.{ℕ, zero, suc, ◌-◌, ◌≤◌, ◌<◌}
use mathlib.Core.Path.{◌≡◌, refl, sym, ◌∙◌}
use mathlib.Core.List.{List, [], ◌∷◌, ◌++◌, append-nil, reverse, reverse-append}
use native.Mathlib.Omega.{arith}
use lib.ListN.{length, get_or, drop, replicate}
use lib.Seq.{drop-cons, drop-length}
use borrow.Author.Tests.{le-leb, lt-leb}
use Rattle.refusal.specs.Answer.{Answer, Served, Refused, left_in}
use Rattle.refusal.proofs.Answers.{left_refused}
use Rattle.search.specs.Question.{answer_keys, trail}
use Rattle.keys.specs.declared.distance.Place.{Place}
use Rattle.keys.specs.Places.{place_of}
use Rattle.seek.specs.declared.step.Tally.{Tally}
use Rattle.seek.specs.Step.{handed_in}
use Rattle.seek.specs.Search.{Reached}
use Rattle.seek.specs.Told.{searched_of, handed_out, Told}

-- ---- at the end of a list

-- the last n are the keys handed out, last first
pub handed_last : (n : ℕ) (keys : List ℕ) → n ≤ length keys → drop (length keys - n) keys ≡ reverse (handed_in n keys)
unfolding handed_in
handed_last zero keys room = let none : length keys - 0 ≡ length keys = omega arith in rw none (drop-length keys)
handed_last (suc n) keys room =
    let at : suc (length keys - suc n) ≡ length keys - n = omega arith in
    drop-cons keys (length keys - suc n) 0 (omega arith) ∙ rw (at, handed_last n keys (omega arith)) (sym (reverse-append (handed_in n keys) (get_or keys (length keys - suc n) 0 ∷ [])))

-- nothing is handed out
pub none_out : (n : ℕ) → handed_out [] n ≡ replicate n 0
unfolding handed_out
none_out n = let all : n - 0 ≡ n = omega arith in rw all (append-nil (replicate {A = ℕ} n 0))

-- ---- what it answers

-- 11 where the trail is longer than its room
pub searched_short : (h : ℕ) (bytes : List ℕ) (p : Place) (k room : ℕ) → room < length (trail (place_of p) h bytes k) → searched_of h bytes p k room ≡ Refused 11
unfolding searched_of
searched_short h bytes p k room more = rw (lt-leb (length (trail (place_of p) h bytes k)) room more)

-- served where it is not
pub searched_fits : (h : ℕ) (bytes : List ℕ) (p : Place) (k room : ℕ) → length (trail (place_of p) h bytes k) ≤ room
    → searched_of h bytes p k room ≡ Served (length (answer_keys (place_of p) h bytes k) ∷ length (trail (place_of p) h bytes k) ∷ [])
unfolding searched_of
searched_fits h bytes p k room fits = rw (le-leb (length (trail (place_of p) h bytes k)) room fits)

-- ---- what it leaves

module _ (a : Answer (List ℕ)) {h : ℕ} {bytes : List ℕ} {p : Place} {k : ℕ} {keys corners trailList : List ℕ} where
  -- refused: nothing is handed out, and the lists are clear
  pub told_refused : {m : ℕ} {keys' corners' trail' : List ℕ} → a ≡ Refused m
      → keys' ≡ replicate (length keys) 0 → corners' ≡ replicate (length corners) 0 → trail' ≡ replicate (length trailList) 0
      → Told a h bytes p k keys corners trailList (Refused m) keys' corners' trail'
  told_refused e none c l =
      record {
        number = sym e;
        keys_left = rw e (none ∙ sym (none_out (length keys)));
        corners_left = c;
        trail_left = l ∙ left_refused a _ (length trailList) (sym e);
      }

  -- served: the answer is handed out, and the trail is in its list
  pub told_found : {t : Tally} {found keys' corners' trail' : List ℕ} → a ≡ Served (length (answer_keys (place_of p) h bytes k) ∷ length (trail (place_of p) h bytes k) ∷ [])
      → Reached (place_of p) h bytes k t found trail' → length trail' ≡ length trailList → t.handed ≤ length found → length found ≡ length keys
      → keys' ≡ replicate (length found - t.handed) 0 ++ drop (length found - t.handed) found → corners' ≡ replicate (length corners) 0
      → Told a h bytes p k keys corners trailList (Served (t.handed ∷ t.opened ∷ [])) keys' corners' trail'
  unfolding left_in handed_out
  told_found {t} {found} {keys'} served s trail-long room long kept c =
      let out : keys' ≡ replicate (length keys - length (answer_keys (place_of p) h bytes k)) 0 ++ reverse (answer_keys (place_of p) h bytes k) =
      kept ∙ rw (handed_last t.handed found room, s.answer, long, s.handed) in
      record {
        number = rw (served, s.handed, s.opened) refl;
        keys_left = rw served out;
        corners_left = c;
        trail_left = rw (served, ← trail-long) s.in_trail;
      }

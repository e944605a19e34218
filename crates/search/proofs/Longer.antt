-- A longer list never contradicts a shorter one. Of one board and one place, the answer for fewer joints is the beginning of the answer for more,
-- and its trail the beginning of the other's.
use Prim.Native.Nat.{ℕ, zero, suc, ◌-◌, ◌≤◌}
use mathlib.Core.Bool.{Bool}
use mathlib.Core.Path.{refl, ap, ◌∙◌}
use mathlib.Core.List.{List, [], ◌∷◌, ◌++◌, map, map-append}
use native.Mathlib.Omega.{arith}
use lib.ListN.{take}
use Rattle.order.specs.Order.{sort, keep}
use Rattle.order.proofs.Keep.{keep_append}
use Rattle.board.proofs.Valid.{Sound}
use Rattle.board.proofs.Bounds.{served_groups, served_height}
use Rattle.search.specs.Near.{Place}
use Rattle.search.specs.Keys.{id_of, is_box, kind_of}
use Rattle.search.specs.Question.{box_keys, joint_keys, answer_keys, trail}
use Rattle.search.specs.Plain.{Starts, Joint, FirstJoints, Trail}
use Rattle.search.proofs.PlainJoints.{answer_in}
use Rattle.search.proofs.Visit.{until}
use Rattle.search.proofs.Demands.{visit, visit_trail}
use Rattle.search.proofs.Plain.{answer_exactly, trail_exactly}

-- ---- beginnings

-- after a function
pub starts_map : {A B : Type 0} (f : A → B) {l m : List A} → Starts l m → Starts (map f l) (map f m)
starts_map f {l} s = record { rest = map f s.rest; whole = ap (map f) s.whole ∙ map-append f l s.rest }

-- of those that pass a test
pub starts_keep : (p : ℕ → Bool) {l m : List ℕ} → Starts l m → Starts (keep p l) (keep p m)
starts_keep p {l} s = record { rest = keep p s.rest; whole = ap (keep p) s.whole ∙ keep_append p l s.rest }

-- one more in front
pub starts_cons : {A : Type 0} (x : A) {l m : List A} → Starts l m → Starts (x ∷ l) (x ∷ m)
starts_cons {A} x s = record { rest = s.rest; whole = ap (λ (l : List A). x ∷ l) s.whole }

-- the first of a list, and more of them
pub starts_take : {A : Type 0} (k k' : ℕ) (l : List A) → k ≤ k' → Starts (take k l) (take k' l)
starts_take zero k' l le = record { rest = take k' l; whole = refl }
starts_take (suc k) zero l le = absurd (omega arith)
starts_take (suc k) (suc k') [] le = record { rest = []; whole = refl }
starts_take (suc k) (suc k') (x ∷ l) le = starts_cons x (starts_take k k' l (omega arith))

-- the visit for fewer joints, and for more
pub starts_until : (l : List ℕ) (k k' : ℕ) → k ≤ k' → Starts (until l k) (until l k')
unfolding until
starts_until [] k k' le = record { rest = []; whole = refl }
starts_until (x ∷ l) zero k' le = record { rest = until (x ∷ l) k'; whole = refl }
starts_until (x ∷ l) (suc k) zero le = absurd (omega arith)
starts_until (x ∷ l) (suc k) (suc k') le = starts_cons x (starts_until l (suc k - kind_of x) (suc k' - kind_of x) (omega arith))

-- ---- answers and trails by their keys

-- the answer
pub answer_starts : (p : Place) (h : ℕ) (bytes : List ℕ) (k k' : ℕ) → k ≤ k' → Starts (answer_keys p h bytes k) (answer_keys p h bytes k')
unfolding answer_keys
answer_starts p h bytes k k' le = starts_take k k' (sort (joint_keys p h bytes)) le

module _ (p : Place) (h : ℕ) (bytes : List ℕ) {j g : ℕ} (served : Sound h bytes j g) (k k' : ℕ) (one : 1 ≤ k) (le : k ≤ k') where
  -- the trail, on a board that the check serves
  pub trail_starts : Starts (trail p h bytes k) (trail p h bytes k')
  unfolding visit
  trail_starts =
      let few = served_groups h bytes j g served in
      let low = served_height h bytes j g served in
      rw (← visit_trail p h bytes few low k one, ← visit_trail p h bytes few low k' (omega arith))
      (starts_map id_of (starts_keep is_box (starts_until (sort (box_keys p h bytes h ++ joint_keys p h bytes)) k k' le)))

  -- ---- the same in the paper's words

  -- the first k joints are the beginning of the first k'
  pub joints_start : (found found' : List Joint) → FirstJoints p h bytes k found → FirstJoints p h bytes k' found' → Starts found found'
  joints_start found found' f f' =
      rw ((answer_exactly p h bytes served k found).0 f, (answer_exactly p h bytes served k' found').0 f')
      (starts_map answer_in (answer_starts p h bytes k k' le))

  -- and the boxes opened for them are the beginning of those opened for more
  pub boxes_start : (found found' : List Joint) (boxes boxes' : List ℕ) → FirstJoints p h bytes k found → FirstJoints p h bytes k' found'
      → Trail p h bytes k found boxes → Trail p h bytes k' found' boxes' → Starts boxes boxes'
  boxes_start found found' boxes boxes' f f' t t' =
      rw ((trail_exactly p h bytes served k one found boxes f).0 t, (trail_exactly p h bytes served k' (omega arith) found' boxes' f').0 t') trail_starts

-- The answer and the trail of a question are what document 01 says of them, and nothing else is: on every board that the check serves, for every place.
-- So nobody has to trust how keys are packed. Distances and near distances are in PlainDistances, and that boxes are the groups in PlainGroups.
use Prim.Native.Nat.{ℕ, ◌≤◌}
use mathlib.Core.Path.{◌≡◌, sym, ◌∙◌}
use mathlib.Core.Logic.{◌↔◌}
use mathlib.Core.List.{List, map}
use Rattle.board.proofs.Valid.{Sound}
use Rattle.board.proofs.Bounds.{served_groups, served_height}
use Rattle.search.specs.Near.{Place}
use Rattle.search.specs.Question.{answer_keys, trail}
use Rattle.search.specs.Plain.{Joint, IsJoint, Before, FirstJoints, Sooner, Trail}
use Rattle.search.proofs.PlainLists.{firsts_one, in_order_one}
use Rattle.search.proofs.PlainJoints.{answer_in, answer_first, before_one_way}
use Rattle.search.proofs.PlainTrail.{trail_opened, sooner_one_way}

-- ---- no two answers, no two trails

-- two lists of the first k joints are equal
pub first_joints_one : {p : Place} {h : ℕ} {bytes : List ℕ} {k : ℕ} {found found' : List Joint} → FirstJoints p h bytes k found → FirstJoints p h bytes k found' → found ≡ found'
first_joints_one {p} {h} {bytes} {found = found} {found' = found'} a b =
    firsts_one Before before_one_way (IsJoint p h bytes) found found'
    (record { in_order = a.in_order; only = a.joints_only; others = a.others_after })
    (record { in_order = b.in_order; only = b.joints_only; others = b.others_after })
    (a.many ∙ sym b.many)

-- two trails of one question are equal
pub trail_one : {p : Place} {h : ℕ} {bytes : List ℕ} {k : ℕ} {found : List Joint} {boxes boxes' : List ℕ} → Trail p h bytes k found boxes → Trail p h bytes k found boxes' → boxes ≡ boxes'
trail_one {p} {h} {bytes} {boxes = boxes} {boxes' = boxes'} a b =
    in_order_one (Sooner p h bytes) sooner_one_way boxes boxes' a.in_order b.in_order (λ g m. (b.exactly g).1 ((a.exactly g).0 m)) (λ g m. (a.exactly g).1 ((b.exactly g).0 m))

-- ---- a question of a board that the check serves

module _ (p : Place) (h : ℕ) (bytes : List ℕ) {j g : ℕ} (served : Sound h bytes j g) (k : ℕ) where
  -- the answer is the first k joints
  pub answer_plain : FirstJoints p h bytes k (map answer_in (answer_keys p h bytes k))
  answer_plain = answer_first p h bytes (served_height h bytes j g served) k

  -- the trail is the boxes to be opened for it
  pub trail_plain : 1 ≤ k → Trail p h bytes k (map answer_in (answer_keys p h bytes k)) (trail p h bytes k)
  trail_plain one = trail_opened p h bytes (served_groups h bytes j g served) k one

  -- no other list is the first k joints
  pub answer_exactly : (found : List Joint) → FirstJoints p h bytes k found ↔ (found ≡ map answer_in (answer_keys p h bytes k))
  answer_exactly found = (λ f. first_joints_one f answer_plain, λ e. rw e answer_plain)

  -- and no other list is the trail
  pub trail_exactly : 1 ≤ k → (found : List Joint) (boxes : List ℕ) → FirstJoints p h bytes k found → Trail p h bytes k found boxes ↔ (boxes ≡ trail p h bytes k)
  trail_exactly one found boxes f =
      let e = first_joints_one f answer_plain in
      (λ t. trail_one (rw e at t) (trail_plain one), λ q. rw (e, q) (trail_plain one))

-- The trail of a question without keys: the keys of the boxes in order are the boxes by near distance, then group number.
use Prim.Native.Nat.{ℕ, zero, suc, ◌+◌, ◌-◌, ◌^◌, ◌≤◌, ◌<◌}
use mathlib.Core.Bool.{true}
use mathlib.Core.Path.{◌≡◌, refl, ◌∙◌}
use mathlib.Core.Logic.{⊎_elim}
use mathlib.Core.List.{List, [], ◌∷◌, map, map-append}
use native.Mathlib.Omega.{arith}
use native.Mathlib.Nat.{eq-or-lt_of_le, add-zero, zero-add}
use lib.ListN.{length, get_or, length-map}
use lib.Dec.{ltb}
use borrow.Author.Tests.{leb-true, ltb-true, ltb-false, le-leb, lt-ltb}
use Rattle.order.specs.Order.{sort, keep, from}
use Rattle.order.specs.Bag.{count}
use Rattle.order.proofs.Cases.{test_cases}
use Rattle.order.proofs.Bag.{count-sort}
use Rattle.order.proofs.Keep.{count_kept, count_keep_le, kept_passes}
use Rattle.order.proofs.Rows.{from-append}
use Rattle.order.proofs.Sorted.{sorted_sort}
use Rattle.order.proofs.Sets.{In, Rising, has_here, in_cons, in_tail, not_in_nil, in_append, in_append_left, in_append_right, in_count, count_in}
use Rattle.board.specs.Levels.{Box, root, joints, groups}
use Rattle.board.specs.Under.{Stands}
use Rattle.board.proofs.Levels.{groups_suc, groups_mono, groups_zero}
use Rattle.board.proofs.Rank.{stands_at}
use Rattle.search.specs.Near.{Place}
use Rattle.search.specs.Keys.{box_key, distance_of, kind_of, id_of}
use Rattle.search.specs.Question.{level_keys, box_keys, answer_keys, last, reached, trail}
use Rattle.search.specs.Plain.{Last, NearDistance, Sooner, Reached, Trail}
use Rattle.search.proofs.Keys.{box_says}
use Rattle.search.proofs.PlainLists.{in_member, member_in, member_map, map_member, last-map, last_one, rising_once, sorted_once, rising_in_order}
use Rattle.search.proofs.PlainJoints.{answer_in}
use Rattle.search.proofs.PlainDistances.{near_one, near_stands}

-- the keys of boxes in a row, by their places
level_in : (p : Place) (s g x : ℕ) (bs : List Box) → In x (level_keys p s g bs) → (i : ℕ) × (i < length bs) × (x ≡ box_key p s (g + i) (get_or bs i root))
unfolding level_keys
level_in p s g x [] h = absurd (not_in_nil x h)
level_in p s g x (b ∷ bs) h =
    ⊎_elim (λ e. (0, omega arith, rw add-zero e))
    (λ k. let r = level_in p s (suc g) x bs k in let on : g + suc r.0 ≡ suc g + r.0 = omega arith in (suc r.0, omega (arith, r.1), rw on r.2))
    (in_cons x (box_key p s g b) (level_keys p s (suc g) bs) h)

-- and back
in_level : (p : Place) (s g i : ℕ) (bs : List Box) → i < length bs → In (box_key p s (g + i) (get_or bs i root)) (level_keys p s g bs)
unfolding level_keys
in_level p s g i [] lt = absurd (omega arith)
in_level p s g zero (b ∷ bs) lt = rw add-zero (has_here (box_key p s g b) (level_keys p s (suc g) bs))
in_level p s g (suc i) (b ∷ bs) lt =
    let on : g + suc i ≡ suc g + i = omega arith in
    rw on (in_tail _ (box_key p s g b) (level_keys p s (suc g) bs) (in_level p s (suc g) i bs (omega arith)))

-- x is the key of group g, a box of level n of a board of height h
record BoxKey (p : Place) (h : ℕ) (bytes : List ℕ) (x : ℕ) : Type 0 where
  level : ℕ
  group : ℕ
  box : Box
  above : level < h
  stands : Stands bytes level group box
  is : x ≡ box_key p (2 ^ (h - level)) group box

-- the keys of boxes are those of the groups that stand
boxes_in : (p : Place) (h : ℕ) (bytes : List ℕ) (x n : ℕ) → n ≤ h → In x (box_keys p h bytes n) → BoxKey p h bytes x
unfolding box_keys
boxes_in p h bytes x zero le i = absurd (not_in_nil x i)
boxes_in p h bytes x (suc n) le i =
    ⊎_elim (λ j. boxes_in p h bytes x n (omega arith) j)
    (λ j. let r = level_in p (2 ^ (h - n)) (groups n bytes) x (joints n bytes) j in
    record { level = n; group = groups n bytes + r.0; box = get_or (joints n bytes) r.0 root; above = le; stands = stands_at bytes n r.0 root r.1; is = r.2 })
    (in_append x (box_keys p h bytes n) (level_keys p (2 ^ (h - n)) (groups n bytes) (joints n bytes)) i)

-- and back
in_boxes : (p : Place) (h : ℕ) (bytes : List ℕ) (n g : ℕ) (b : Box) (m : ℕ) → n < m → Stands bytes n g b → In (box_key p (2 ^ (h - n)) g b) (box_keys p h bytes m)
unfolding box_keys
in_boxes p h bytes n g b zero lt s = absurd (omega arith)
in_boxes p h bytes n g b (suc m) lt s =
    ⊎_elim
    (λ e.
    let on : groups n bytes + (g - groups n bytes) ≡ g = omega (arith, s.low) in
    let place = in_level p (2 ^ (h - n)) (groups n bytes) (g - groups n bytes) (joints n bytes) (omega (arith, s.low, s.high, groups_suc bytes n)) in
    in_append_right _ (box_keys p h bytes m) _ (rw (← e) (rw (on, s.box root) at place)))
    (λ l. in_append_left _ (box_keys p h bytes m) _ (in_boxes p h bytes n g b m l s))
    (eq-or-lt_of_le {n = n} {m = m} (omega arith))

-- the groups of boxes in a row, from their keys
level_ids : (p : Place) (s g : ℕ) (bs : List Box) → g + length bs ≤ 2 ^ 24 → map id_of (level_keys p s g bs) ≡ from g (length bs)
unfolding level_keys from
level_ids p s g [] le = refl
level_ids p s g (b ∷ bs) le = rw ((box_says p s g b (omega arith)).id, level_ids p s (suc g) bs (omega arith))

-- the keys of boxes are those of the groups 0, 1, 2, ..
box_ids : (p : Place) (h : ℕ) (bytes : List ℕ) (n : ℕ) → groups n bytes ≤ 2 ^ 24 → map id_of (box_keys p h bytes n) ≡ from 0 (groups n bytes)
unfolding box_keys
box_ids p h bytes zero le = rw (groups_zero bytes) (unfold from in refl)
box_ids p h bytes (suc n) le =
    rw (map-append, box_ids p h bytes n (omega (arith, groups_suc bytes n)), level_ids p (2 ^ (h - n)) (groups n bytes) (joints n bytes) (omega (arith, groups_suc bytes n)), groups_suc bytes n, from-append, zero-add)

-- numbers in a row
from_least : (a n z : ℕ) → In z (from a n) → a ≤ z
unfolding from
from_least a zero z i = absurd (not_in_nil z i)
from_least a (suc n) z i = ⊎_elim (λ e. omega arith) (λ j. omega (arith, from_least (suc a) n z j)) (in_cons z a (from (suc a) n) i)

from_rises : (a n : ℕ) → Rising (from a n)
unfolding from
from_rises a zero = tt
from_rises a (suc n) = ((λ z i. from_least (suc a) n z i), from_rises (suc a) n)

-- ---- what is reached

-- the last of a list is there
last_is : (l : List ℕ) → 1 ≤ length l → Last (last l) l
unfolding last
last_is [] some = absurd (omega arith)
last_is (x ∷ []) some = refl
last_is (x ∷ y ∷ ys) some = last_is (y ∷ ys) (omega arith)

-- a key is reached where its distance is
reached_plain : (k x : ℕ) (answer : List ℕ) → 1 ≤ k → reached k answer x ≡ true → Reached k (map answer_in answer) (distance_of x)
unfolding reached
reached_plain k x answer one r =
    test_cases (ltb (length answer) k)
    (λ e. Reached.fewer (rw length-map (ltb-true (length answer) k e)))
    (λ e. Reached.no_farther (answer_in (last answer)) (last-map answer_in (last answer) answer (last_is answer (omega (arith, ltb-false (length answer) k e)))) (leb-true _ _ (rw e at r)))

-- and back
plain_reached : (k x : ℕ) (answer : List ℕ) → 1 ≤ k → Reached k (map answer_in answer) (distance_of x) → reached k answer x ≡ true
unfolding reached
plain_reached k x answer one (Reached.fewer lt) = rw (lt-ltb (length answer) k (rw length-map at lt))
plain_reached k x answer one (Reached.no_farther f l le) =
    test_cases (ltb (length answer) k) (λ e. rw e)
    (λ e.
    let same = last_one f (answer_in (last answer)) (map answer_in answer) l (last-map answer_in (last answer) answer (last_is answer (omega (arith, ltb-false (length answer) k e)))) in
    rw e (le-leb (distance_of x) (distance_of (last answer)) (rw same at le)))

-- ---- the trail

-- no group comes before another and after it
pub sooner_one_way : {p : Place} {h : ℕ} {bytes : List ℕ} (g g' : ℕ) → Sooner p h bytes g g' → Sooner p h bytes g' g → ⊥
sooner_one_way g g' (Sooner.by_distance a b l) (Sooner.by_distance c d m) = omega (arith, near_one a d, near_one b c)
sooner_one_way g g' (Sooner.by_distance a b l) (Sooner.by_number c d m) = omega (arith, near_one a d, near_one b c)
sooner_one_way g g' (Sooner.by_number a b l) (Sooner.by_distance c d m) = omega (arith, near_one a d, near_one b c)
sooner_one_way g g' (Sooner.by_number a b l) (Sooner.by_number c d m) = omega arith

module _ (p : Place) (h : ℕ) (bytes : List ℕ) (few : groups h bytes ≤ 2 ^ 24) where
  -- group numbers have room in keys
  number_fits : (n g : ℕ) (b : Box) → n < h → Stands bytes n g b → g < 2 ^ 24
  number_fits n g b lt s = omega (arith, s.high, groups_mono bytes (suc n) h lt)

  -- the key of a group says its near distance
  key_near : (x : ℕ) → In x (box_keys p h bytes h) → (kind_of x ≡ 0) × NearDistance p h bytes (id_of x) (distance_of x)
  key_near x i =
      let k = boxes_in p h bytes x h (omega arith) i in
      let says = box_says p (2 ^ (h - k.level)) k.group k.box (number_fits k.level k.group k.box k.above k.stands) in
      (rw k.is says.kind, rw (k.is, says.id, says.distance) (near_stands p h bytes k.level k.group k.box k.above k.stands))

  -- two keys in order are two groups in order
  in_turn : (x y : ℕ) → In x (box_keys p h bytes h) → In y (box_keys p h bytes h) → x < y → Sooner p h bytes (id_of x) (id_of y)
  in_turn x y i j less =
      let a = key_near x i in let b = key_near y j in
      ⊎_elim
      (λ e. Sooner.by_number a.1 (rw (← e) at b.1) (omega (arith, a.0, b.0)))
      (λ l. Sooner.by_distance a.1 b.1 l)
      (eq-or-lt_of_le {n = distance_of x} {m = distance_of y} (omega arith))

  -- the trail: exactly the boxes to be opened, by near distance, then group number
  pub trail_opened : (k : ℕ) → 1 ≤ k → Trail p h bytes k (map answer_in (answer_keys p h bytes k)) (trail p h bytes k)
  unfolding trail
  trail_opened k one =
      let answer = answer_keys p h bytes k in
      let boxes = box_keys p h bytes h in
      let kept = keep (reached k answer) boxes in
      let once = rising_once id_of boxes (rw (box_ids p h bytes h few) (from_rises 0 (groups h bytes))) in
      let rises : Rising (sort kept) = sorted_once (sort kept) (sorted_sort kept) (λ x. omega (arith, count-sort x kept, count_keep_le (reached k answer) x boxes, once x)) in
      let counted : (x : ℕ) → In x (sort kept) → 1 ≤ count x kept = λ x i. omega (arith, in_count x (sort kept) i, count-sort x kept) in
      let mine : (x : ℕ) → In x (sort kept) → In x boxes = λ x i. count_in x boxes (omega (arith, counted x i, count_keep_le (reached k answer) x boxes)) in
      record {
        in_order = rising_in_order (Sooner p h bytes) id_of (sort kept) rises (λ x y i j. in_turn x y (mine x i) (mine y j));
        exactly = λ g. (
          λ m. let x = map_member id_of (sort kept) m in let i = member_in x.1 in
              rw x.2 (record { distance = distance_of x.0; near = (key_near x.0 (mine x.0 i)).1; reached = reached_plain k x.0 answer one ((kept_passes (reached k answer) boxes).of x.0 (counted x.0 i)) }),
          λ o.
              let n = o.near in
              let x = box_key p (2 ^ (h - n.level)) g n.box in
              let says = box_says p (2 ^ (h - n.level)) g n.box (number_fits n.level g n.box n.above n.stands) in
              let far : distance_of x ≡ o.distance = says.distance ∙ near_one (near_stands p h bytes n.level g n.box n.above n.stands) n in
              let here = in_boxes p h bytes n.level g n.box h n.above n.stands in
              let passes = plain_reached k x answer one (rw far o.reached) in
              let there : In x (sort kept) = count_in x (sort kept) (omega (arith, count-sort x kept, count_kept (reached k answer) x boxes passes, in_count x boxes here)) in
              rw says.id at (member_map id_of (in_member x (sort kept) there)),
        );
      }

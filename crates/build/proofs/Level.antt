-- One level of the bitmap, cell by cell: a cell more changes the last group, opens the next one, or changes nothing.
use Prim.Native.Nat.{ℕ, zero, suc, ◌+◌, ◌*◌, ◌-◌, ◌/◌, ◌%◌, ◌^◌, ◌<◌}
use mathlib.Core.Path.{◌≡◌, refl, ap, ◌∙◌}
use mathlib.Core.List.{List, [], ◌∷◌, ◌++◌, map, map-append}
use native.Mathlib.Omega.{arith}
use borrow.Author.Tests.{eq-eqb, ne_eqb}
use Rattle.order.specs.Order.{unless_first, distinct, has}
use Rattle.order.specs.Bag.{same}
use Rattle.order.proofs.Cases.{same_cases, same_self}
use Rattle.order.proofs.Sets.{has_here, has_there, has_append_left, has_append_right}
use Rattle.order.proofs.Distinct.{unless_snoc}
use Rattle.build.specs.Build.{boxes_of, group_of}
use Rattle.build.specs.Writing.{worth}
use Rattle.build.proofs.Groups.{group_of_same}

-- a number that is the one before it is not kept
distinct_same : (l : List ℕ) (b c : ℕ) → b ≡ c → distinct (l ++ b ∷ [] ++ c ∷ []) ≡ distinct (l ++ b ∷ [])
unfolding distinct unless_first
distinct_same [] b c e = rw (eq-eqb b c e) (cc)
distinct_same (a ∷ l) b c e = ap (unless_first a) (distinct_same l b c e)

-- another is
distinct_new : (l : List ℕ) (b c : ℕ) → (b ≡ c → ⊥) → distinct (l ++ b ∷ [] ++ c ∷ []) ≡ distinct (l ++ b ∷ []) ++ c ∷ []
unfolding distinct unless_first
distinct_new [] b c n = rw (ne_eqb b c n)
distinct_new (a ∷ []) b c n = ap (unless_first a) (distinct_new [] b c n) ∙ unless_snoc a b [] c
distinct_new (a ∷ x ∷ l) b c n = ap (unless_first a) (distinct_new (x ∷ l) b c n) ∙ unless_snoc a x (distinct (l ++ b ∷ [])) c

-- a cell in the box of the one before it opens no box
pub boxes_same : (s : ℕ) (l : List ℕ) (b c : ℕ) → b / 4 ^ s ≡ c / 4 ^ s → boxes_of s (l ++ b ∷ [] ++ c ∷ []) ≡ boxes_of s (l ++ b ∷ [])
unfolding boxes_of
boxes_same s l b c e = rw (map-append, map-append) (distinct_same (map (λ (c : ℕ). c / 4 ^ s) l) (b / 4 ^ s) (c / 4 ^ s) e)

-- any other opens one
pub boxes_new : (s : ℕ) (l : List ℕ) (b c : ℕ) → (b / 4 ^ s ≡ c / 4 ^ s → ⊥) → boxes_of s (l ++ b ∷ [] ++ c ∷ []) ≡ boxes_of s (l ++ b ∷ []) ++ c / 4 ^ s ∷ []
unfolding boxes_of
boxes_new s l b c n = rw (map-append, map-append) (distinct_new (map (λ (c : ℕ). c / 4 ^ s) l) (b / 4 ^ s) (c / 4 ^ s) n)

-- a number behind a list that does not have it
has_snoc : (z y : ℕ) (ys : List ℕ) → has y ys ≡ 0 → has z (ys ++ y ∷ []) ≡ has z ys + same z y
has_snoc z y ys e =
    same_cases z y
    (λ p q. rw (q, p) (has_append_right y ys (y ∷ []) e ∙ has_here y [] ∙ omega arith))
    (λ p q. rw q (has_append_left z ys (y ∷ []) (has_there z y [] p ∙ unfold has in refl) ∙ omega arith))

-- of the four places one is the quarter's
one_place : (x y : ℕ) → y / 4 ≡ x → 8 * same (4 * x) y + 4 * same (4 * x + 1) y + 2 * same (4 * x + 2) y + same (4 * x + 3) y ≡ worth y
one_place x y e = go (y % 4) (omega arith) (omega arith)
  where
    hit : (z : ℕ) → z ≡ y → same z y ≡ 1
    hit z e = rw e (same_self y)

    miss : (z : ℕ) → (z ≡ y → ⊥) → same z y ≡ 0
    miss z n = same_cases z y (λ e s. absurd (n e)) (λ d s. s)

    go : (q : ℕ) → q < 4 → y ≡ 4 * x + q → 8 * same (4 * x) y + 4 * same (4 * x + 1) y + 2 * same (4 * x + 2) y + same (4 * x + 3) y ≡ 2 ^ (3 - q)
    go zero k p = rw (hit (4 * x) (omega arith), miss (4 * x + 1) (omega arith), miss (4 * x + 2) (omega arith), miss (4 * x + 3) (omega arith))
    go (suc zero) k p = rw (miss (4 * x) (omega arith), hit (4 * x + 1) (omega arith), miss (4 * x + 2) (omega arith), miss (4 * x + 3) (omega arith))
    go (suc (suc zero)) k p = rw (miss (4 * x) (omega arith), miss (4 * x + 1) (omega arith), hit (4 * x + 2) (omega arith), miss (4 * x + 3) (omega arith))
    go (suc (suc (suc zero))) k p = rw (miss (4 * x) (omega arith), miss (4 * x + 1) (omega arith), miss (4 * x + 2) (omega arith), hit (4 * x + 3) (omega arith))
    go (suc (suc (suc (suc q)))) k p = absurd (omega arith)

-- a new quarter adds its bit to its box's group
pub group_of_more : (ys : List ℕ) (x y : ℕ) → y / 4 ≡ x → has y ys ≡ 0 → group_of (ys ++ y ∷ []) x ≡ group_of ys x + worth y
unfolding group_of
group_of_more ys x y e h =
    omega (arith, has_snoc (4 * x) y ys h, has_snoc (4 * x + 1) y ys h, has_snoc (4 * x + 2) y ys h, has_snoc (4 * x + 3) y ys h, one_place x y e)

-- and to no other
pub group_of_other : (ys : List ℕ) (x y : ℕ) → (x ≡ y / 4 → ⊥) → group_of (ys ++ y ∷ []) x ≡ group_of ys x
group_of_other ys x y n =
    group_of_same (ys ++ y ∷ []) ys x (λ q k. has_append_left (4 * x + q) ys (y ∷ []) (has_there (4 * x + q) y [] (λ e. n (omega arith)) ∙ unfold has in refl))

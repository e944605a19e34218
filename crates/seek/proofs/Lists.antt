-- Stores in the two work lists as stores of entries: taking one out, and adding some.
use Prim.Native.Nat.{ℕ, zero, suc, ◌+◌, ◌≤◌, ◌<◌}
use mathlib.Core.Path.{◌≡◌, refl, ap, ◌∙◌}
use mathlib.Core.List.{List, [], ◌∷◌, ◌++◌}
use native.Mathlib.Omega.{arith}
use native.Mathlib.Nat.{add-zero}
use lib.ListN.{length, get_or, set, length-append}
use Rattle.order.specs.Bag.{count}
use Rattle.order.proofs.Bag.{count-append}
use Rattle.search.specs.Entries.{pack}
use Rattle.seek.specs.Pending.{packed, Added}

-- as many entries as both lists have places
pub packed_long : (n : ℕ) (ks cs : List ℕ) → n ≤ length ks → n ≤ length cs → n ≤ length (packed ks cs)
unfolding packed
packed_long zero ks cs h l = omega arith
packed_long (suc n) [] cs h l = absurd (omega arith)
packed_long (suc n) (k ∷ ks) [] h l = absurd (omega arith)
packed_long (suc n) (k ∷ ks) (c ∷ cs) h l = omega (arith, packed_long n ks cs (omega arith) (omega arith))

-- the entry at a place
pub packed_at : (i : ℕ) (ks cs : List ℕ) → i < length ks → i < length cs → get_or (packed ks cs) i 0 ≡ pack (get_or ks i 0) (get_or cs i 0)
unfolding packed
packed_at i [] cs h l = absurd (omega arith)
packed_at i (k ∷ ks) [] h l = absurd (omega arith)
packed_at zero (k ∷ ks) (c ∷ cs) h l = refl
packed_at (suc i) (k ∷ ks) (c ∷ cs) h l = packed_at i ks cs (omega arith) (omega arith)

-- a store in both lists is a store of an entry
pub packed-set : (i k c : ℕ) (ks cs : List ℕ) → packed (set ks i k) (set cs i c) ≡ set (packed ks cs) i (pack k c)
unfolding packed
packed-set i k c [] cs = refl
packed-set zero k c (x ∷ ks) [] = refl
packed-set (suc i) k c (x ∷ ks) [] = refl
packed-set zero k c (x ∷ ks) (y ∷ cs) = refl
packed-set (suc i) k c (x ∷ ks) (y ∷ cs) = ap (λ (l : List ℕ). pack x y ∷ l) (packed-set i k c ks cs)

-- nothing is added
pub added_none : (n : ℕ) (ks cs : List ℕ) → Added n [] ks cs ks cs
unfolding count
added_none n ks cs = record { ordered = λ o. rw (add-zero n) o; joins = λ x. rw (add-zero n) (omega arith); behind = λ i le. refl; keys_long = refl; corners_long = refl }

-- some and then some more
pub added_more : {n : ℕ} {a b ks cs ks' cs' ks'' cs'' : List ℕ} → Added n a ks cs ks' cs' → Added (n + length a) b ks' cs' ks'' cs'' → Added n (a ++ b) ks cs ks'' cs''
added_more {n} {a} {b} s t =
    let e : n + length (a ++ b) ≡ n + length a + length b = omega (arith, length-append a b) in
    record {
      ordered = λ o. rw e (t.ordered (s.ordered o));
      joins = λ x. rw e (omega (arith, t.joins x, s.joins x, count-append x a b));
      behind = λ i le. t.behind i (omega arith) ∙ s.behind i (omega arith);
      keys_long = t.keys_long ∙ s.keys_long;
      corners_long = t.corners_long ∙ s.corners_long;
    }

-- Making the first numbers of a list distinct in place: what is kept, then zeros, then what was not looked at yet.
use Prim.Native.Nat.{ℕ, zero, suc, ◌+◌, ◌-◌, ◌≤◌, ◌<◌}
use mathlib.Core.Path.{◌≡◌, refl, sym, ap, ◌∙◌}
use mathlib.Core.List.{List, [], ◌∷◌, ◌++◌, append_assoc}
use native.Mathlib.Omega.{arith}
use native.Mathlib.Numerals.{add-one}
use lib.Dec.{eqb}
use lib.ListN.{length, get_or, set, take, drop, replicate, length-append, length-replicate, length-set}
use lib.Seq.{append_snoc, set_at, get_or_at, drop-cons}
use borrow.Author.Tests.{eq-eqb, ne_eqb}
use Rattle.order.specs.Order.{unless_first, distinct}
use Rattle.order.specs.Once.{Left, Dropped}
use Rattle.order.proofs.Cases.{test_cases}

-- one more behind a list that is not empty
pub unless_snoc : (a b : ℕ) (l : List ℕ) (x : ℕ) → unless_first a (unless_first b l ++ x ∷ []) ≡ unless_first a (unless_first b l) ++ x ∷ []
unfolding unless_first
unless_snoc a b [] x = test_cases (eqb a b) (λ e. rw e) (λ e. rw e)
unless_snoc a b (y ∷ ys) x =
    test_cases (eqb b y)
    (λ e. rw e (test_cases (eqb a y) (λ f. rw f) (λ f. rw f)))
    (λ e. rw e (test_cases (eqb a b) (λ f. rw f) (λ f. rw f)))

-- a number that is the one before it is not kept
distinct_same : (l : List ℕ) (j : ℕ) → suc j < length l → get_or l (suc j) 0 ≡ get_or l j 0 → distinct (take (suc (suc j)) l) ≡ distinct (take (suc j) l)
unfolding distinct unless_first
distinct_same [] j lt e = absurd (omega arith)
distinct_same (a ∷ []) j lt e = absurd (omega arith)
distinct_same (a ∷ b ∷ l) zero lt e = rw (eq-eqb a b (sym e)) (cc)
distinct_same (a ∷ b ∷ l) (suc j) lt e = ap (unless_first a) (distinct_same (b ∷ l) j (omega arith) e)

-- another is
distinct_new : (l : List ℕ) (j : ℕ) → suc j < length l → (get_or l (suc j) 0 ≡ get_or l j 0 → ⊥) → distinct (take (suc (suc j)) l) ≡ distinct (take (suc j) l) ++ get_or l (suc j) 0 ∷ []
unfolding distinct unless_first
distinct_new [] j lt e = absurd (omega arith)
distinct_new (a ∷ []) j lt e = absurd (omega arith)
distinct_new (a ∷ b ∷ l) zero lt e = rw (ne_eqb a b (λ q. e (sym q)))
distinct_new (a ∷ b ∷ l) (suc j) lt e = ap (unless_first a) (distinct_new (b ∷ l) j (omega arith) e) ∙ unless_snoc a b (distinct (take j l)) (get_or (b ∷ l) (suc j) 0)

-- the same of a place after the first
same_at : (l : List ℕ) (i : ℕ) → 1 ≤ i → i < length l → get_or l i 0 ≡ get_or l (i - 1) 0 → distinct (take (suc i) l) ≡ distinct (take i l)
same_at l zero low lt e = absurd (omega arith)
same_at l (suc j) low lt e = let q : suc j - 1 ≡ j = omega arith in distinct_same l j lt (rw q at e)

-- and of another there
new_at : (l : List ℕ) (i : ℕ) → 1 ≤ i → i < length l → (get_or l i 0 ≡ get_or l (i - 1) 0 → ⊥) → distinct (take (suc i) l) ≡ distinct (take i l) ++ get_or l i 0 ∷ []
new_at l zero low lt e = absurd (omega arith)
new_at l (suc j) low lt e = let q : suc j - 1 ≡ j = omega arith in distinct_new l j lt (rw q at e)

-- a zero before zeros
zeros_snoc : (e : ℕ) (r : List ℕ) → replicate e 0 ++ 0 ∷ r ≡ replicate (suc e) 0 ++ r
zeros_snoc zero r = refl
zeros_snoc (suc e) r = ap (λ (l : List ℕ). 0 ∷ l) (zeros_snoc e r)

-- the number behind the zeros becomes one
zeros_more : (p : List ℕ) (e i x : ℕ) (r : List ℕ) → length p + e ≡ i → set (p ++ replicate e 0 ++ x ∷ r) i 0 ≡ p ++ replicate (suc e) 0 ++ r
zeros_more p e i x r q =
    set_at (p ++ replicate e 0) x r 0 i (simp (length-append, length-replicate) q) ∙ append_assoc p (replicate e 0) (0 ∷ r) ∙ ap (λ (l : List ℕ). p ++ l) (zeros_snoc e r) ∙ sym (append_assoc p (replicate (suc e) 0) r)

-- the first zero becomes a number that is kept
kept_more : (p : List ℕ) (e k x : ℕ) (r : List ℕ) → length p ≡ k → set (p ++ replicate (suc e) 0 ++ r) k x ≡ p ++ x ∷ [] ++ replicate e 0 ++ r
kept_more p e k x r q =
    ap (λ (l : List ℕ). set l k x) (append_assoc p (replicate (suc e) 0) r) ∙ set_at p 0 (replicate e 0 ++ r) x k q ∙ sym (append_snoc p x (replicate e 0 ++ r)) ∙ sym (append_assoc (p ++ x ∷ []) (replicate e 0) r)

-- l is l₀ after its first i numbers were looked at, the last of which is last, and so many are kept
pub record Once (l₀ l : List ℕ) (i kept last : ℕ) : Type 0 where
  pub low : 1 ≤ i
  pub many : length (distinct (take i l₀)) ≡ kept
  pub few : kept ≤ i
  pub has : l ≡ distinct (take i l₀) ++ replicate (i - kept) 0 ++ drop i l₀
  pub before : last ≡ get_or l₀ (i - 1) 0
  pub as_long : length l ≡ length l₀

-- the first is kept
pub once_start : (l : List ℕ) → 1 ≤ length l → Once l l 1 1 (get_or l 0 0)
unfolding distinct unless_first
once_start [] h = absurd (omega arith)
once_start (x ∷ xs) h = record { low = omega arith; many = refl; few = omega arith; has = refl; before = refl; as_long = refl }

module _ {l₀ l : List ℕ} {i kept last : ℕ} (s : Once l₀ l i kept last) (more : i < length l) where
  -- what is at place i is what was
  once_at : get_or l i 0 ≡ get_or l₀ i 0
  once_at =
      rw (s.has, drop-cons l₀ i 0 (omega (arith, s.as_long)))
      (get_or_at (distinct (take i l₀) ++ replicate (i - kept) 0) (get_or l₀ i 0) (drop (suc i) l₀) 0 i (simp (length-append, length-replicate) (omega (arith, s.many, s.few))))

  -- a zero is stored there
  once_zero : set l i 0 ≡ distinct (take i l₀) ++ replicate (suc (i - kept)) 0 ++ drop (suc i) l₀
  once_zero =
      ap (λ (m : List ℕ). set m i 0) (s.has ∙ ap (λ (r : List ℕ). distinct (take i l₀) ++ replicate (i - kept) 0 ++ r) (drop-cons l₀ i 0 (omega (arith, s.as_long))))
      ∙ zeros_more (distinct (take i l₀)) (i - kept) i (get_or l₀ i 0) (drop (suc i) l₀) (omega (arith, s.many, s.few))

  -- it is the number before it
  pub once_same : get_or l i 0 ≡ last → Once l₀ (set l i 0) (i + 1) kept last
  once_same q =
      let e = same_at l₀ i s.low (omega (arith, s.as_long)) (sym once_at ∙ q ∙ s.before) in
      let less : suc i - kept ≡ suc (i - kept) = omega (arith, s.few) in
      let back : suc i - 1 ≡ i = omega arith in
      rw add-one (record {
        low = omega arith;
        many = ap length e ∙ s.many;
        few = omega (arith, s.few);
        has = rw (e, less) once_zero;
        before = rw back (sym q ∙ once_at);
        as_long = length-set l i 0 ∙ s.as_long;
      })

  -- it is another
  pub once_new : (get_or l i 0 ≡ last → ⊥) → Once l₀ (set (set l i 0) kept (get_or l i 0)) (i + 1) (kept + 1) (get_or l i 0)
  once_new ne =
      let e = new_at l₀ i s.low (omega (arith, s.as_long)) (λ q. ne (once_at ∙ q ∙ sym s.before)) in
      let back : suc i - 1 ≡ i = omega arith in
      let same : suc i - suc kept ≡ i - kept = omega arith in
      rw (add-one, add-one) (record {
        low = omega arith;
        many = ap length e ∙ length-append (distinct (take i l₀)) (get_or l₀ i 0 ∷ []) ∙ omega (arith, s.many);
        few = omega (arith, s.few);
        has = rw (e, same) (ap (λ (m : List ℕ). set m kept (get_or l i 0)) once_zero ∙ kept_more (distinct (take i l₀)) (i - kept) kept (get_or l i 0) (drop (suc i) l₀) s.many ∙ rw once_at);
        before = rw back once_at;
        as_long = simp length-set s.as_long;
      })

-- of none, none are left
pub dropped_none : (l : List ℕ) (n : ℕ) → n ≡ 0 → Dropped l l n 0
unfolding distinct
dropped_none l n q = rw q (record { many = refl; few = omega arith; has = refl })

-- what is found determines all that is left
pub left_one : {found rest m o : List ℕ} {n r s : ℕ} → Left found rest m n r → Left found rest o n s → (r ≡ s) × (m ≡ o)
left_one a b = let q = a.many ∙ sym b.many in (q, a.has ∙ rw q (sym b.has))

-- The answer list, place by place.
use Prim.Native.Nat.{ℕ, zero, suc, ◌+◌, ◌-◌, ◌≤◌, ◌<◌}
use mathlib.Core.Path.{◌≡◌, refl, sym, ap, ◌∙◌}
use mathlib.Core.Logic.{⊎_elim}
use mathlib.Core.List.{List, [], ◌∷◌, ◌++◌, map}
use native.Mathlib.Nat.{eq-or-lt_of_le}
use native.Mathlib.Omega.{arith}
use lib.ListN.{length, get_or, set, replicate, length-set, length-append, length-map, length-replicate, get_or-map, get_or-append, get_or-eq_default}
use lib.Seq.{get_or-set_same, get_or-set_other, get_or_at, ext_get_or}
use Rattle.nearest.specs.declared.answer.Answer.{Answer}
use Rattle.seek.specs.Step.{handed_in}
use Rattle.nearest.specs.Answers.{zero_answer, answer_of, filled}

-- as many as are handed out
pub length_handed : (m : ℕ) (keys : List ℕ) → length (handed_in m keys) ≡ m
unfolding handed_in
length_handed zero keys = refl
length_handed (suc m) keys = rw length-append (omega (arith, length_handed m keys))

-- the key of the joint handed out at i
pub handed_at : (m : ℕ) (keys : List ℕ) (i : ℕ) → i < m → get_or (handed_in m keys) i 0 ≡ get_or keys (length keys - suc i) 0
unfolding handed_in
handed_at zero keys i h = absurd (omega arith)
handed_at (suc m) keys i h =
    ⊎_elim
    (λ (e : i ≡ m). rw e (get_or_at (handed_in m keys) (get_or keys (length keys - suc m) 0) [] 0 m (length_handed m keys)))
    (λ (lt : i < m). get_or-append (handed_in m keys) (get_or keys (length keys - suc m) 0 ∷ []) 0 i (rw (length_handed m keys) lt) ∙ handed_at m keys i lt)
    (eq-or-lt_of_le {n = i} {m = m} (omega arith))

-- no joint, by its three zeros
pub answer_zero : {a : Answer} → a.row ≡ 0 → a.column ≡ 0 → a.distance ≡ 0 → a ≡ zero_answer
answer_zero r c d = λ i. record { row = r i; column = c i; distance = d i }

-- its record
pub picked : (n : ℕ) (keys : List ℕ) (i : ℕ) → i < n → answer_of (get_or keys (length keys - suc i) 0) ≡ get_or (map answer_of (handed_in n keys)) i zero_answer
picked n keys i h = ap answer_of (sym (handed_at n keys i h)) ∙ sym (get_or-map answer_of (handed_in n keys) i 0)

-- zeros after the last one
pub not_picked : (n : ℕ) (keys : List ℕ) (i : ℕ) → n ≤ i → zero_answer ≡ get_or (map answer_of (handed_in n keys)) i zero_answer
not_picked n keys i h = sym (get_or-eq_default (map answer_of (handed_in n keys)) zero_answer (omega (arith, length-map (handed_in n keys) answer_of, length_handed n keys)))

-- zeros behind a list are read as past its end
in_or_past : (l : List Answer) (m k : ℕ) → get_or l k zero_answer ≡ get_or (l ++ replicate m zero_answer) k zero_answer
in_or_past [] zero k = refl
in_or_past [] (suc m) zero = refl
in_or_past [] (suc m) (suc k) = in_or_past [] m k
in_or_past (x ∷ l) m zero = refl
in_or_past (x ∷ l) m (suc k) = in_or_past l m k

-- the records up to i are f's
pub record Put (f : ℕ → Answer) (i : ℕ) (l₀ l : List Answer) : Type 0 where
  pub as_long : length l ≡ length l₀
  pub done : (k : ℕ) → k < i → k < length l₀ → get_or l k zero_answer ≡ f k

-- none yet
pub put_none : (f : ℕ → Answer) (l₀ : List Answer) → Put f 0 l₀ l₀
put_none f l₀ = record { as_long = refl; done = λ k lt h. absurd (omega arith) }

-- one more
pub put_more : (f : ℕ → Answer) (i : ℕ) (l₀ l l' : List Answer) → i < length l₀ → Put f i l₀ l → l' ≡ set l i (f i) → Put f (i + 1) l₀ l'
put_more f i l₀ l l' h s e =
    record {
      as_long = ap length e ∙ length-set l i (f i) ∙ s.as_long;
      done = λ k lt in_range. ap (λ (z : List Answer). get_or z k zero_answer) e ∙ ⊎_elim
          (λ (q : k ≡ i). rw q (get_or-set_same l i (f i) zero_answer (omega (arith, s.as_long))))
          (λ (lower : k < i). get_or-set_other l i k (f i) zero_answer (λ q. omega arith) ∙ s.done k lower in_range)
          (eq-or-lt_of_le {n = k} {m = i} (omega arith));
    }

-- all: the list is filled
pub put_all : (n : ℕ) (keys : List ℕ) (i : ℕ) (l₀ l : List Answer) → n ≤ length l₀ → length l₀ ≤ i → Put (λ k. get_or (map answer_of (handed_in n keys)) k zero_answer) i l₀ l → l ≡ filled (handed_in n keys) (length l₀)
unfolding filled
put_all n keys i l₀ l room h s =
    ext_get_or zero_answer l (found ++ zeros)
    (s.as_long ∙ sym (length-append found zeros ∙ long))
    (λ k lt. s.done k (omega (arith, s.as_long)) (omega (arith, s.as_long)) ∙ at k)
  where
    found : List Answer
    found = map answer_of (handed_in n keys)

    zeros : List Answer
    zeros = replicate (length l₀ - length (handed_in n keys)) zero_answer

    long : length found + length zeros ≡ length l₀
    long = omega (arith, length-map (handed_in n keys) answer_of, length_handed n keys, length-replicate (length l₀ - length (handed_in n keys)) zero_answer)

    at : (k : ℕ) → get_or found k zero_answer ≡ get_or (found ++ zeros) k zero_answer
    at k = in_or_past found (length l₀ - length (handed_in n keys)) k

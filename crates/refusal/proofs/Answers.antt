-- Answers in a row: what is served has passed every test, and what is refused stays refused, whatever is answered in the end.
use Prim.Native.Nat.{ℕ, ◌-◌}
use mathlib.Core.Bool.{Bool, true, false}
use mathlib.Core.Logic.{◌↔◌, ◌⊎◌, inl, inr, ⊎_elim}
use mathlib.Core.Path.{◌≡◌, refl, sym, ap}
use mathlib.Core.List.{List, append-nil}
use native.Mathlib.Omega.{arith}
use lib.ListN.{length, replicate}
use Rattle.refusal.proofs.Tests.{fails}
use Rattle.refusal.specs.Answer.{Answer, Served, Refused, ◌unless◌, ◌then◌, left_in}

-- no answer is both served and refused
pub not_both : {A : Type 0} {n : ℕ} {x : A} → Refused n ≡ Served x → ⊥
not_both {n = n} {x = x} e = let z : ◌≡◌ {A = ℕ} 0 1 = cc in omega arith

-- refused alike is refused by one number
pub same_number : {A : Type 0} {m n : ℕ} → ◌≡◌ {A = Answer A} (Refused m) (Refused n) → m ≡ n
same_number e = cc

-- what the notation comes to: refused by k exactly where the test fails and k is its number, or the test holds and the rest is refused by k
pub unless_exactly : {A : Type 0} (n : ℕ) (t : Bool) (rest : Answer A) (k : ℕ) → ((n unless t then rest) ≡ Refused k) ↔ (((t ≡ false) × (n ≡ k)) ⊎ ((t ≡ true) × (rest ≡ Refused k)))
unless_exactly n true rest k = (λ e. inr (refl, e), ⊎_elim (λ w. fails (sym w.0)) (λ w. w.1))
unless_exactly n false rest k = (λ e. inl (refl, same_number e), ⊎_elim (λ w. ap Refused w.1) (λ w. fails w.0))

-- what is served passed the test, and the rest serves it
pub passed : {A : Type 0} (n : ℕ) (t : Bool) (rest : Answer A) {x : A} → (n unless t then rest) ≡ Served x → (t ≡ true) × (rest ≡ Served x)
passed n true rest e = (refl, e)
passed n false rest e = absurd (not_both e)

-- what is served was served at first too
pub went_on : {A B : Type 0} (a : Answer A) (rest : Answer B) {x : B} → (a then rest) ≡ Served x → (y : A) × (a ≡ Served y) × (rest ≡ Served x)
went_on (Served y) rest e = (y, refl, e)
went_on (Refused n) rest e = absurd (not_both e)

-- refused at first, or by the test: refused, whatever is answered in the end
pub stays : {A B : Type 0} (a : Answer A) (n : ℕ) (t : Bool) (rest : Answer B) {k : ℕ} → (a then n unless t then a) ≡ Refused k → (a then n unless t then rest) ≡ Refused k
stays (Served x) n true rest e = absurd (not_both (sym e))
stays (Served x) n false rest {k} e = let same : n ≡ k = cc in rw same
stays (Refused m) n t rest {k} e = let same : m ≡ k = cc in rw same

-- served at first, and by the test: it goes by the rest
pub goes_on : {A B : Type 0} (a : Answer A) (n : ℕ) (t : Bool) (rest : Answer B) {x : A} → (a then n unless t then a) ≡ Served x → (a then n unless t then rest) ≡ rest
goes_on (Served x) n true rest e = refl
goes_on (Served x) n false rest e = absurd (not_both e)
goes_on (Refused m) n t rest e = absurd (not_both e)

-- refused at first
pub first_refused : {A B : Type 0} (a : Answer A) (rest : Answer B) {k : ℕ} → a ≡ Refused k → Refused k ≡ (a then rest)
first_refused a rest e = rw e

-- served at first, and refused by the test
pub test_refused : {A B : Type 0} (a : Answer A) (n : ℕ) (t : Bool) (rest : Answer B) {x : A} → a ≡ Served x → t ≡ false → Refused n ≡ (a then n unless t then rest)
test_refused a n t rest e f = rw (e, f)

-- served at first, and by the test
pub test_served : {A B : Type 0} (a : Answer A) (n : ℕ) (t : Bool) (rest : Answer B) {x : A} → a ≡ Served x → t ≡ true → (a then n unless t then rest) ≡ rest
test_served a n t rest e f = rw (e, f)

-- after a refusal a list is left with zeros
pub left_refused : {A : Type 0} (a : Answer A) (found : List ℕ) (n : ℕ) {k : ℕ} → Refused k ≡ a → replicate n 0 ≡ left_in a found n
unfolding left_in
left_refused a found n e = rw (← e)

-- a list that has just the room is left with what was found
pub left_served : {A : Type 0} (a : Answer A) (found : List ℕ) (n : ℕ) {x : A} → Served x ≡ a → n ≡ length found → found ≡ left_in a found n
unfolding left_in
left_served a found n e l = let none : n - length found ≡ 0 = omega arith in rw (← e, none, append-nil found)

-- Answers in a row that are refused: by which, after what was served.
use Prim.Native.Nat.{ℕ}
use mathlib.Core.Bool.{Bool, true, false}
use mathlib.Core.Path.{◌≡◌, refl}
use lib.Dec.{eqb}
use borrow.Author.Tests.{eqb-false}
use Rattle.refusal.specs.Answer.{Answer, Served, Refused, ◌unless◌, ◌then◌}

-- by another number than the test's: the test was passed
pub past_test : {A : Type 0} (n k : ℕ) (t : Bool) (rest : Answer A) → eqb n k ≡ false → (n unless t then rest) ≡ Refused k → (t ≡ true) × (rest ≡ Refused k)
past_test n k true rest d e = (refl, e)
past_test n k false rest d e = absurd (eqb-false n k d cc)

-- by the test's number, which the rest never gives: the test was not passed
pub by_test : {A : Type 0} (n : ℕ) (t : Bool) (rest : Answer A) → (rest ≡ Refused n → ⊥) → (n unless t then rest) ≡ Refused n → t ≡ false
by_test n true rest never e = absurd (never e)
by_test n false rest never e = refl

-- by a number that the first never gives: the first was served
pub past_first : {A B : Type 0} (a : Answer A) (rest : Answer B) {k : ℕ} → (a ≡ Refused k → ⊥) → (a then rest) ≡ Refused k → (x : A) × (a ≡ Served x) × (rest ≡ Refused k)
past_first (Served x) rest never e = (x, refl, e)
past_first (Refused n) rest {k} never e = absurd (never (let same : n ≡ k = cc in rw same))

-- by a number that the rest never gives: the first is refused
pub by_first : {A B : Type 0} (a : Answer A) (rest : Answer B) {k : ℕ} → (rest ≡ Refused k → ⊥) → (a then rest) ≡ Refused k → a ≡ Refused k
by_first (Served x) rest never e = absurd (never e)
by_first (Refused n) rest {k} never e = let same : n ≡ k = cc in rw same

-- What a call answers, in the paper's numbers, and what it leaves in a list lent for writing.
use Rattle.std.specs.Prelude.{ℕ, ◌-◌, Bool, true, false, List, ◌++◌, length, replicate}

-- served: the number is 0, and this is returned; refused: this is the number, and what is returned is zero
pub data Answer (A : Type 0) : Type 0 where
  Served : A → Answer A
  Refused : ℕ → Answer A

-- refused by a number unless a test holds
infix 20 ◌unless◌
abbrev pub ◌unless◌ : ℕ → Bool → Answer Bool
n unless true = Served true
n unless false = Refused n

-- the first refusal; where nothing refuses, the last answer
infixr 10 ◌then◌
abbrev pub ◌then◌ : {A B : Type 0} → Answer A → Answer B → Answer B
Served x then a = a
Refused n then a = Refused n

-- the first refusal; where the first answer is served, as is said of what it returns
infixr 10 ◌into◌
abbrev pub ◌into◌ : {A B : Type 0} → Answer A → (A → Answer B) → Answer B
Served x into f = f x
Refused n into f = Refused n

-- the number of an answer
abbrev pub number_in : {A : Type 0} → Answer A → ℕ
number_in (Served x) = 0
number_in (Refused n) = n

-- what it returns, zero after a refusal
abbrev pub value_in : {A : Type 0} → A → Answer A → A
value_in zero (Served x) = x
value_in zero (Refused n) = zero

-- what is left in a list of n places: what was found and then zeros, and zeros alone after a refusal
unfoldable pub left_in : {A : Type 0} → Answer A → List ℕ → ℕ → List ℕ
left_in (Served x) found n = found ++ replicate (n - length found) 0
left_in (Refused k) found n = replicate n 0

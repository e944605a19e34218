-- Numbers in decimal: the last digit after those of a tenth, and how many there are.
use Prim.Native.Nat.{ℕ, zero, suc, ◌+◌, ◌*◌, ◌-◌, ◌/◌, ◌%◌, ◌^◌, ◌≤◌, ◌<◌}
use mathlib.Core.Path.{◌≡◌, refl, ap}
use mathlib.Core.List.{List, [], ◌∷◌, ◌++◌}
use native.Mathlib.Omega.{arith}
use borrow.Author.Tests.{lt-ltb, le-ltb}
use lib.ListN.{length, length-append}
use Rattle.order.proofs.Cases.{ltb_cases}
use Rattle.measure.specs.Measure.{nought, of_digits}
use Rattle.text.specs.Text.{digits, in_decimal}

-- it does not matter how many digits are enough
enough : (j k n : ℕ) → n < j → n < k → digits j n ≡ digits k n
unfolding digits
enough zero k n h i = absurd (omega arith)
enough (suc j) zero n h i = absurd (omega arith)
enough (suc j) (suc k) n h i = ltb_cases n 10 (λ small e. rw e) (λ large e. rw e (ap (λ (l : List ℕ). l ++ (nought + n % 10) ∷ []) (enough j k (n / 10) (omega arith) (omega arith))))

-- one digit
pub decimal_digit : (n : ℕ) → n < 10 → in_decimal n ≡ (nought + n) ∷ []
unfolding in_decimal digits
decimal_digit n h = rw (lt-ltb n 10 h)

-- more digits: those of a tenth, then the last
pub decimal_more : (n : ℕ) → 10 ≤ n → in_decimal n ≡ in_decimal (n / 10) ++ (nought + n % 10) ∷ []
unfolding in_decimal digits
decimal_more n h = rw (le-ltb n 10 h) (ap (λ (l : List ℕ). l ++ (nought + n % 10) ∷ []) (enough n (suc (n / 10)) (n / 10) (omega arith) (omega arith)))

-- a number below a power of ten has as many digits at most
pub length_decimal : (k n : ℕ) → n < 10 ^ suc k → length (in_decimal n) ≤ suc k
length_decimal zero n h = rw (decimal_digit n (omega arith)) (omega arith)
length_decimal (suc k) n h = ltb_cases n 10
    (λ small e. rw (decimal_digit n small) (omega arith))
    (λ large e. rw (decimal_more n large, length-append) (omega (arith, length_decimal k (n / 10) (omega arith))))

-- the number that digits say, and then more digits
says_append : (m : ℕ) (a b : List ℕ) → of_digits m (a ++ b) ≡ of_digits (of_digits m a) b
unfolding of_digits
says_append m [] b = refl
says_append m (x ∷ a) b = says_append (10 * m + (x - nought)) a b

-- the digits of n say n, if they are enough
digits_say : (k n : ℕ) → n < k → of_digits 0 (digits k n) ≡ n
unfolding of_digits digits
digits_say zero n h = absurd (omega arith)
digits_say (suc k) n h = ltb_cases n 10
    (λ small e. rw e (omega arith))
    (λ large e. rw (e, says_append 0 (digits k (n / 10)) ((nought + n % 10) ∷ []), digits_say k (n / 10) (omega arith)) (omega arith))

-- a number in decimal says itself
pub decimal_says : (n : ℕ) → of_digits 0 (in_decimal n) ≡ n
unfolding in_decimal
decimal_says n = digits_say (suc n) n (omega arith)

-- A measure by its digits: the form of a text, place by place, and what it means.
use Prim.Native.Nat.{ℕ, zero, suc, ◌+◌, ◌*◌, ◌-◌, ◌≤◌}
use mathlib.Core.Bool.{Bool, true, false, ◌||◌, cond}
use mathlib.Core.Path.{◌≡◌, refl, sym, ap, ◌∙◌}
use Rattle.std.specs.Prelude.{◌≢◌}
use mathlib.Core.List.{List, [], ◌∷◌}
use native.Mathlib.Omega.{arith}
use lib.ListN.{length, get_or}
use lib.Dec.{leb, eqb}
use borrow.Author.Tests.{le-leb, leb-true, eqb-true, ne_eqb}
use Rattle.refusal.specs.Answer.{Served, Refused, ◌unless◌, ◌then◌}
use Rattle.refusal.proofs.Tests.{both, fails}
use Rattle.measure.specs.Measure.{is_digit, is_comma, is_half, measure, has_form, of_digits, value_of, read_of}

-- a text that has a form has a byte for each place
pub has-length : (form : List (ℕ → Bool)) (t : List ℕ) → has_form form t ≡ true → length t ≡ length form
unfolding has_form
has-length [] [] e = refl
has-length [] (b ∷ t) e = cc
has-length (may ∷ form) [] e = cc
has-length (may ∷ form) (b ∷ t) e = ap suc (has-length form t (both (may b) (has_form form t) e).1)

-- and each byte is as it may be there
pub has_place : (form : List (ℕ → Bool)) (t : List ℕ) (i : ℕ) → has_form form t ≡ true → get_or form i (λ _. true) (get_or t i 0) ≡ true
unfolding has_form
has_place [] t i e = refl
has_place (may ∷ form) [] i e = cc
has_place (may ∷ form) (b ∷ t) zero e = (both (may b) (has_form form t) e).0
has_place (may ∷ form) (b ∷ t) (suc i) e = has_place form t i (both (may b) (has_form form t) e).1

-- a text of five bytes by its bytes
pub five_bytes : (t : List ℕ) → length t ≡ 5 → t ≡ get_or t 0 0 ∷ get_or t 1 0 ∷ get_or t 2 0 ∷ get_or t 3 0 ∷ get_or t 4 0 ∷ []
five_bytes [] h = absurd (omega arith)
five_bytes (a ∷ []) h = absurd (omega arith)
five_bytes (a ∷ b ∷ []) h = absurd (omega arith)
five_bytes (a ∷ b ∷ c ∷ []) h = absurd (omega arith)
five_bytes (a ∷ b ∷ c ∷ d ∷ []) h = absurd (omega arith)
five_bytes (a ∷ b ∷ c ∷ d ∷ e ∷ []) h = refl
five_bytes (a ∷ b ∷ c ∷ d ∷ e ∷ f ∷ t) h = absurd (omega arith)

-- a text of three digits, a comma and a half, by the numbers that they are worth
pub record Measure (t : List ℕ) (hundreds tens ones half : ℕ) : Type 0 where
  pub long : length t ≡ 5
  pub at_0 : get_or t 0 0 ≡ 48 + hundreds
  pub at_1 : get_or t 1 0 ≡ 48 + tens
  pub at_2 : get_or t 2 0 ≡ 48 + ones
  pub at_3 : get_or t 3 0 ≡ 44
  pub at_4 : get_or t 4 0 ≡ 48 + 5 * half
  pub hundreds_low : hundreds ≤ 9
  pub tens_low : tens ≤ 9
  pub ones_low : ones ≤ 9
  pub half_low : half ≤ 1

-- the number that they say
abbrev pub number : ℕ → ℕ → ℕ → ℕ → ℕ
number hundreds tens ones half = 2 * (100 * hundreds + 10 * tens + ones) + half

-- the byte of a digit or a half has its place
digit_has : (n : ℕ) → n ≤ 9 → is_digit (48 + n) ≡ true
unfolding is_digit
digit_has n low = simp (le-leb 48 (48 + n) (omega arith), le-leb (48 + n) 57 (omega arith))

half_has : (n : ℕ) → n ≤ 1 → (is_half (48 + 5 * n) ≡ true) × (◌≡◌ {A = ℕ} (cond (eqb (48 + 5 * n) 53) 1 0) n)
unfolding is_half
half_has zero low = (refl, refl)
half_has (suc zero) low = (refl, refl)
half_has (suc (suc n)) low = absurd (omega arith)

-- a measure is read as its number
pub measure_read : (t : List ℕ) (a b c d : ℕ) → Measure t a b c d → read_of t ≡ Served (number a b c d)
unfolding read_of has_form value_of of_digits is_comma
measure_read t a b c d m =
    let h = half_has d m.half_low in
    let n : 10 * (10 * (10 * 0 + (48 + a - 48)) + (48 + b - 48)) + (48 + c - 48) ≡ 100 * a + 10 * b + c = omega arith in
    rw (five_bytes t m.long, m.at_0, m.at_1, m.at_2, m.at_3, m.at_4, digit_has a m.hundreds_low, digit_has b m.tens_low, digit_has c m.ones_low, h.0, h.1, n)

-- a digit and a half, by what they are worth
digit_is : (b : ℕ) → is_digit b ≡ true → (b ≡ 48 + (b - 48)) × (b - 48 ≤ 9)
unfolding is_digit
digit_is b e = let t = both (leb 48 b) (leb b 57) e in let low = leb-true 48 b t.0 in let high = leb-true b 57 t.1 in (omega arith, omega arith)

half_is : (b : ℕ) → is_half b ≡ true → (n : ℕ) × (b ≡ 48 + 5 * n) × (n ≤ 1)
unfolding is_half
half_is b = by_tests (eqb b 48) (eqb b 53) refl refl
  where
    by_tests : (s t : Bool) → eqb b 48 ≡ s → eqb b 53 ≡ t → s || t ≡ true → (n : ℕ) × (b ≡ 48 + 5 * n) × (n ≤ 1)
    by_tests true t e f h = (0, eqb-true b 48 e, omega arith)
    by_tests false true e f h = (1, eqb-true b 53 f, omega arith)
    by_tests false false e f h = fails h

-- a text that has the form is a measure
pub measure_is : {P : Type 0} (t : List ℕ) → has_form measure t ≡ true → ((a b c d : ℕ) → Measure t a b c d → P) → P
unfolding is_comma
measure_is t e go =
    let at : (i : ℕ) → get_or measure i (λ _. true) (get_or t i 0) ≡ true = λ i. has_place measure t i e in
    let a = digit_is (get_or t 0 0) (at 0) in
    let b = digit_is (get_or t 1 0) (at 1) in
    let c = digit_is (get_or t 2 0) (at 2) in
    let d = half_is (get_or t 4 0) (at 4) in
    go _ _ _ d.0 (record {
      long = has-length measure t e;
      at_0 = a.0;
      at_1 = b.0;
      at_2 = c.0;
      at_3 = eqb-true _ 44 (at 3);
      at_4 = d.1;
      hundreds_low = a.1;
      tens_low = b.1;
      ones_low = c.1;
      half_low = d.2;
    })

-- any other text is refused
pub refused : (t : List ℕ) → (has_form measure t ≡ true → ⊥) → Refused 13 ≡ read_of t
unfolding read_of
refused t wrong = by_test (has_form measure t) refl
  where
    by_test : (s : Bool) → has_form measure t ≡ s → Refused 13 ≡ (13 unless s then Served (value_of t))
    by_test true e = absurd (wrong e)
    by_test false e = refl

-- as one of another length
pub not_five : (t : List ℕ) → length t ≢ 5 → Refused 13 ≡ read_of t
not_five t wrong = refused t (λ e. wrong (has-length measure t e))

-- or with a byte that may not stand at its place
pub not_at : (t : List ℕ) (i : ℕ) → get_or measure i (λ _. true) (get_or t i 0) ≡ false → Refused 13 ≡ read_of t
not_at t i f = refused t (λ e. fails (sym f ∙ has_place measure t i e))

pub not_comma : (t : List ℕ) → get_or t 3 0 ≢ 44 → Refused 13 ≡ read_of t
unfolding is_comma
not_comma t wrong = not_at t 3 (ne_eqb (get_or t 3 0) 44 wrong)

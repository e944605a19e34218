-- Written and read: each undoes the other, plain and marked.
use Prim.Native.Nat.{ℕ, zero, suc, ◌+◌, ◌*◌, ◌-◌, ◌/◌, ◌%◌, ◌≤◌, ◌<◌}
use mathlib.Core.Bool.{Bool, true, false, not, ◌&&◌, ◌||◌, cond}
use mathlib.Core.Path.{◌≡◌, refl, sym, ap, ◌∙◌}
use mathlib.Core.List.{List, [], ◌∷◌}
use native.Mathlib.Nat.{div-div-eq-div-mul}
use native.Mathlib.Omega.{arith}
use lib.IntN.{ℤ, pos, negsuc, nat_abs, neg_ℤ}
use lib.ListN.{length, get_or, take, drop}
use lib.Seq.{take_all}
use lib.Dec.{eqb}
use borrow.Author.Tests.{eqb-true, ne_eqb}
use Rattle.refusal.specs.Answer.{Answer, Served, Refused, ◌unless◌, ◌then◌}
use Rattle.refusal.proofs.Answers.{not_both, same_number}
use Rattle.measure.specs.Measure.{max_measure, is_mark, has_form, measure, marked, value_of, read_of, signed_of, minus_zero, read_marked_of, written, written_marked}
use Rattle.measure.specs.Parts.{with_mark}
use Rattle.measure.proofs.Places.{Measure, number, five_bytes, measure_is, measure_read}

-- what is written is read as the number that was written
pub read_written : (n : ℕ) → n ≤ max_measure → read_of (written n) ≡ Served n
unfolding written
read_written n h =
    let x : n / 2 ≡ n / 20 * 10 + n / 2 % 10 = omega (arith, div-div-eq-div-mul n 2 10) in
    let y : n / 20 ≡ n / 200 * 10 + n / 20 % 10 = omega (arith, div-div-eq-div-mul n 20 10) in
    let z : n / 200 % 10 ≡ n / 200 = omega arith in
    let m : Measure (written n) (n / 200 % 10) (n / 20 % 10) (n / 2 % 10) (n % 2) = omega arith in
    measure_read (written n) (n / 200 % 10) (n / 20 % 10) (n / 2 % 10) (n % 2) m ∙ ap Served (omega arith)

-- a measure is its number, written
pub measure_written : (t : List ℕ) (a b c d : ℕ) → Measure t a b c d → (t ≡ written (number a b c d)) × (number a b c d ≤ max_measure)
unfolding written
measure_written t a b c d m =
    let n = number a b c d in
    let a' : get_or t 0 0 ≡ 48 + n / 200 % 10 = omega arith in
    let b' : get_or t 1 0 ≡ 48 + n / 20 % 10 = omega arith in
    let c' : get_or t 2 0 ≡ 48 + n / 2 % 10 = omega arith in
    let d' : get_or t 4 0 ≡ 48 + 5 * (n % 2) = omega arith in
    (cc (five_bytes t m.long, a', b', c', d', m.at_3), omega arith)

-- what is read as a number is that number, written
pub written_read : (t : List ℕ) (n : ℕ) → read_of t ≡ Served n → (t ≡ written n) × (n ≤ max_measure)
unfolding read_of
written_read t n = by_test (has_form measure t) refl
  where
    by_test : (s : Bool) → has_form measure t ≡ s → (13 unless s then Served (value_of t)) ≡ Served n → (t ≡ written n) × (n ≤ max_measure)
    by_test true e f = measure_is t e λ a b c d m. let same : n ≡ number a b c d = cc (measure_read t a b c d m, f) in rw same (measure_written t a b c d m)
    by_test false e f = absurd (not_both f)

-- a marked text by its mark and the reading of the rest
pub marked_served : (mark : ℕ) (t : List ℕ) (n : ℕ) → read_of t ≡ Served n → read_marked_of (mark ∷ t) ≡ with_mark mark n
unfolding read_marked_of read_of has_form with_mark minus_zero
marked_served mark t n = by_tests (is_mark mark) (has_form measure t)
  where
    by_tests : (s u : Bool) → (13 unless u then Served (value_of t)) ≡ Served n → (13 unless (s && u) then 13 unless not (eqb mark 45 && eqb (value_of t) 0) then Served (signed_of mark (value_of t))) ≡ (13 unless s then 13 unless not (eqb mark 45 && eqb n 0) then Served (signed_of mark n))
    by_tests true true e = let same : n ≡ value_of t = cc in rw same
    by_tests false true e = refl
    by_tests s false e = absurd (not_both e)

-- and refused where the rest is
pub marked_refused : (mark k : ℕ) (t : List ℕ) → read_of t ≡ Refused k → read_marked_of (mark ∷ t) ≡ Refused k
unfolding read_marked_of read_of has_form
marked_refused mark k t = by_tests (is_mark mark) (has_form measure t)
  where
    by_tests : (s u : Bool) → (13 unless u then Served (value_of t)) ≡ Refused k → (13 unless (s && u) then 13 unless not (minus_zero (mark ∷ t)) then Served (signed_of mark (value_of t))) ≡ Refused k
    by_tests s true e = absurd (not_both (sym e))
    by_tests true false e = ap Refused (same_number e)
    by_tests false false e = ap Refused (same_number e)

-- the same of a text that has a mark
pub text_served : (t : List ℕ) (n : ℕ) → 0 < length t → Served n ≡ read_of (take (length t - 1) (drop 1 t)) → with_mark (get_or t 0 0) n ≡ read_marked_of t
text_served [] n h e = absurd (omega arith)
text_served (mark ∷ t) n h e = sym (marked_served mark t n (ap read_of (sym (take_all (length (mark ∷ t) - 1) t (omega arith))) ∙ sym e))

pub text_refused : (t : List ℕ) (k : ℕ) → 0 < length t → Refused k ≡ read_of (take (length t - 1) (drop 1 t)) → Refused k ≡ read_marked_of t
text_refused [] k h e = absurd (omega arith)
text_refused (mark ∷ t) k h e = sym (marked_refused mark k t (ap read_of (sym (take_all (length (mark ∷ t) - 1) t (omega arith))) ∙ sym e))

-- a size that is read is small
pub read_low : (t : List ℕ) (n : ℕ) → Served n ≡ read_of t → n ≤ max_measure
read_low t n e = (written_read t n (sym e)).1

-- no text at all is no marked measure
pub no_text : (t : List ℕ) → length t < 1 → Refused 13 ≡ read_marked_of t
unfolding read_marked_of has_form
no_text [] h = refl
no_text (mark ∷ t) h = absurd (omega arith)

-- a text that is read as no number is refused with 13
pub served_or_13 : (t : List ℕ) → ((n : ℕ) → read_of t ≡ Served n → ⊥) → read_of t ≡ Refused 13
unfolding read_of
served_or_13 t = by_test (has_form measure t)
  where
    by_test : (s : Bool) → ((n : ℕ) → (13 unless s then Served (value_of t)) ≡ Served n → ⊥) → (13 unless s then Served (value_of t)) ≡ Refused 13
    by_test true none = absurd (none (value_of t) refl)
    by_test false none = refl

-- the same with a mark
pub marked_served_or_13 : (t : List ℕ) → ((z : ℤ) → read_marked_of t ≡ Served z → ⊥) → read_marked_of t ≡ Refused 13
unfolding read_marked_of
marked_served_or_13 t = by_tests (has_form marked t) (minus_zero t)
  where
    by_tests : (s u : Bool) → ((z : ℤ) → (13 unless s then 13 unless not u then Served (signed_of (get_or t 0 0) (value_of (drop 1 t)))) ≡ Served z → ⊥) → (13 unless s then 13 unless not u then Served (signed_of (get_or t 0 0) (value_of (drop 1 t)))) ≡ Refused 13
    by_tests true false none = absurd (none (signed_of (get_or t 0 0) (value_of (drop 1 t))) refl)
    by_tests true true none = refl
    by_tests false u none = refl

-- what is written with a mark is read as the number that was written
pub read_written_marked : (z : ℤ) → nat_abs z ≤ max_measure → read_marked_of (written_marked z) ≡ Served z
unfolding written_marked with_mark is_mark signed_of
read_written_marked (pos n) h = marked_served 43 (written n) n (read_written n h)
read_written_marked (negsuc n) h = marked_served 45 (written (suc n)) (suc n) (read_written (suc n) h) ∙ rw (ne_eqb (suc n) 0 (omega arith))

-- the marked measure of a mark and a size
with_mark_lem : (mark n : ℕ) (z : ℤ) → with_mark mark n ≡ Served z → (mark ∷ written n ≡ written_marked z) × (nat_abs z ≡ n)
unfolding written_marked with_mark is_mark signed_of
with_mark_lem mark n z = by_tests (eqb mark 43) (eqb mark 45) refl refl n
  where
    by_tests : (s t : Bool) → eqb mark 43 ≡ s → eqb mark 45 ≡ t → (n : ℕ) → (13 unless (s || t) then 13 unless not (t && eqb n 0) then Served (cond t (neg_ℤ (pos n)) (pos n))) ≡ Served z → (mark ∷ written n ≡ written_marked z) × (nat_abs z ≡ n)
    by_tests true true e f n h = absurd (omega (arith, eqb-true mark 43 e, eqb-true mark 45 f))
    by_tests true false e f n h = let same : z ≡ pos n = cc in rw (same, eqb-true mark 43 e) (refl, refl)
    by_tests false true e f zero h = absurd (not_both h)
    by_tests false true e f (suc n) h =
        let as_read : Served (negsuc n) ≡ Served z = rw (ne_eqb (suc n) 0 (omega arith)) at h in
        let same : z ≡ negsuc n = cc in rw (same, eqb-true mark 45 f) (refl, refl)
    by_tests false false e f n h = absurd (not_both h)

-- what is read as a signed number is that number, written with its mark
pub written_read_marked : (t : List ℕ) (z : ℤ) → read_marked_of t ≡ Served z → (t ≡ written_marked z) × (nat_abs z ≤ max_measure)
unfolding read_marked_of has_form
written_read_marked [] z h = absurd (not_both h)
written_read_marked (mark ∷ t) z h = by-reading (read_of t) refl
  where
    by-reading : (a : Answer ℕ) → read_of t ≡ a → (mark ∷ t ≡ written_marked z) × (nat_abs z ≤ max_measure)
    by-reading (Served n) e =
        let w = written_read t n e in
        let m = with_mark_lem mark n z (sym (marked_served mark t n e) ∙ h) in
        (rw w.0 m.0, omega arith)
    by-reading (Refused k) e = absurd (not_both (sym (marked_refused mark k t e) ∙ h))

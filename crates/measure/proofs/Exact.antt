-- What is read is exactly what is written: a measure and its number determine each other, in the plain form and in the marked form. And 13 is given
-- exactly where there is no such measure, or, by the writers, no room for it.
use Prim.Native.Nat.{ℕ, ◌≤◌}
use mathlib.Core.Bool.{◌&&◌}
use mathlib.Core.Logic.{◌↔◌}
use mathlib.Core.Path.{◌≡◌, sym, ap, ◌∙◌}
use mathlib.Core.List.{List, ◌∷◌}
use native.Mathlib.Omega.{arith}
use lib.IntN.{ℤ, nat_abs}
use lib.ListN.{length}
use lib.Dec.{leb}
use Rattle.refusal.specs.Answer.{Answer, Served, Refused, ◌unless◌}
use Rattle.refusal.proofs.Answers.{not_both, same_number}
use Rattle.measure.specs.Measure.{max_measure, measure, marked, minus, is_mark, read_of, read_marked_of, written, written_marked, write_of, write_marked_of}
use Rattle.measure.specs.Parts.{with_mark}
use Rattle.measure.proofs.Written.{served_or_13, marked_served_or_13, read_written, written_read, read_written_marked, written_read_marked, marked_served}
use Rattle.measure.proofs.Room.{within, without}

-- an answer that serves exactly what is so, and else is 13, is refused exactly where nothing is so, and by 13
refuses : {A : Type 0} (a : Answer A) (is : A → Type 0) → ((x : A) → (a ≡ Served x) ↔ is x) → (((x : A) → a ≡ Served x → ⊥) → a ≡ Refused 13)
    → (k : ℕ) → (a ≡ Refused k) ↔ ((k ≡ 13) × ((x : A) → is x → ⊥))
refuses a is serves other k = (
  λ e. (same_number (sym e ∙ other (λ x f. not_both (sym e ∙ f))), λ x i. not_both (sym e ∙ (serves x).1 i)),
  λ w. other (λ x f. w.1 x ((serves x).0 f)) ∙ ap Refused (sym w.0),
)

-- ---- the plain form

-- a text is read as n exactly where it is n, written, and n is from 0 to 1,999
pub read_exactly : (t : List ℕ) (n : ℕ) → (read_of t ≡ Served n) ↔ ((t ≡ written n) × (n ≤ max_measure))
read_exactly t n = (written_read t n, λ w. ap read_of w.0 ∙ read_written n w.1)

-- it is refused exactly where it is no number's measure, and by 13
pub read_refuses : (t : List ℕ) (k : ℕ) → (read_of t ≡ Refused k) ↔ ((k ≡ 13) × ((n : ℕ) → (t ≡ written n) × (n ≤ max_measure) → ⊥))
read_refuses t = refuses (read_of t) (λ (n : ℕ). (t ≡ written n) × (n ≤ max_measure)) (read_exactly t) (served_or_13 t)

-- no two numbers have the same measure
pub written_injective : (m n : ℕ) → m ≤ max_measure → n ≤ max_measure → written m ≡ written n → m ≡ n
written_injective m n h j e = let same : Served m ≡ Served n = sym (read_written m h) ∙ ap read_of e ∙ read_written n j in cc

-- ---- the marked form

-- a text is read as z exactly where it is z, written with its mark, and z is from -1,999 to 1,999
pub read_marked_exactly : (t : List ℕ) (z : ℤ) → (read_marked_of t ≡ Served z) ↔ ((t ≡ written_marked z) × (nat_abs z ≤ max_measure))
read_marked_exactly t z = (written_read_marked t z, λ w. ap read_marked_of w.0 ∙ read_written_marked z w.1)

-- it is refused exactly where it is no number's marked measure, and by 13
pub read_marked_refuses : (t : List ℕ) (k : ℕ) → (read_marked_of t ≡ Refused k) ↔ ((k ≡ 13) × ((z : ℤ) → (t ≡ written_marked z) × (nat_abs z ≤ max_measure) → ⊥))
read_marked_refuses t = refuses (read_marked_of t) (λ (z : ℤ). (t ≡ written_marked z) × (nat_abs z ≤ max_measure)) (read_marked_exactly t) (marked_served_or_13 t)

-- no two numbers have the same marked measure
pub written_marked_injective : (y z : ℤ) → nat_abs y ≤ max_measure → nat_abs z ≤ max_measure → written_marked y ≡ written_marked z → y ≡ z
written_marked_injective y z h j e = let same : Served y ≡ Served z = sym (read_written_marked y h) ∙ ap read_marked_of e ∙ read_written_marked z j in cc

-- there is no minus zero
pub no_minus_zero : read_marked_of (minus ∷ written 0) ≡ Refused 13
unfolding with_mark is_mark
no_minus_zero = marked_served minus (written 0) 0 (read_written 0 (omega arith))

-- ---- the writers

-- a size and a room, each within its bound or refused
bounded : (a most need room k : ℕ) → ((13 unless (leb a most && leb need room)) ≡ Refused k) ↔ ((k ≡ 13) × ((a ≤ most) × (need ≤ room) → ⊥))
bounded a most need room k = (
  λ e. let none : (a ≤ most) × (need ≤ room) → ⊥ = λ w. not_both (sym e ∙ within a most need room w.0 w.1) in
      (same_number (sym e ∙ without a most need room (λ h j. none (h, j))), none),
  λ w. without a most need room (λ h j. w.1 (h, j)) ∙ ap Refused (sym w.0),
)

-- a number is refused by the writer exactly where no measure says it, or there is no room for one, and by 13
pub write_refuses : (n room k : ℕ) → (write_of n room ≡ Refused k) ↔ ((k ≡ 13) × ((n ≤ max_measure) × (length measure ≤ room) → ⊥))
unfolding write_of
write_refuses n room k = bounded n max_measure (length measure) room k

-- the same with a mark
pub write_marked_refuses : (z : ℤ) (room k : ℕ) → (write_marked_of z room ≡ Refused k) ↔ ((k ≡ 13) × ((nat_abs z ≤ max_measure) × (length marked ≤ room) → ⊥))
unfolding write_marked_of
write_marked_refuses z room k = bounded (nat_abs z) max_measure (length marked) room k

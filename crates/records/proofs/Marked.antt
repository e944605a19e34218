-- The number of a marked measure is small: an i32 holds it.
use Prim.Native.Nat.{ℕ, zero, suc}
use mathlib.Core.Path.{◌≡◌, refl}
use mathlib.Core.List.{List}
use native.Mathlib.Omega.{arith}
use lib.IntN.{ℤ, pos, neg_ℤ, nat_abs}
use mir.Syntax.{w32}
use mir.Val.{to_z, of_z}
use Rattle.refusal.specs.Answer.{Served}
use Rattle.signed.proofs.Signed.{back}
use Rattle.measure.specs.Measure.{max_measure, read_marked_of}
use Rattle.measure.proofs.Written.{written_read_marked}

-- the size of a number's negative
size_negative : (n : ℕ) → nat_abs (neg_ℤ (pos n)) ≡ n
size_negative zero = refl
size_negative (suc n) = refl

-- what is read as a marked measure is at most the largest measure either way, and so it is read back from the bits that hold it
pub marked_back : (t : List ℕ) (z : ℤ) → read_marked_of t ≡ Served z → to_z w32 (of_z w32 z) ≡ z
marked_back t z e = back z (omega (arith, (written_read_marked t z e).1))

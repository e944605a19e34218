-- What a box opens to, quarter by quarter.
use Prim.Native.Nat.{ℕ, zero, suc, ◌+◌, ◌*◌, ◌^◌, ◌≤◌, ◌<◌}
use mathlib.Core.Path.{◌≡◌, refl, sym, ap, ◌∙◌}
use mathlib.Core.List.{List, [], ◌∷◌, ◌++◌, append_assoc, append-nil}
use native.Mathlib.Omega.{arith}
use native.Mathlib.Nat.{pow-succ', add-mul, mul_assoc, mul_comm, add-zero, add_assoc}
use lib.ListN.{length, length-append}
use Rattle.bitmap.specs.Bits.{bit_of, ones_of}
use Rattle.bitmap.proofs.Ones.{bit_small}
use Rattle.bitmap.proofs.RankByGroup.{ones_to}
use Rattle.board.specs.Levels.{Box, quarters}
use Rattle.board.specs.Under.{quarter, along, if_one}
use Rattle.board.specs.Kids.{Entry, entry_at, entry}
use Rattle.board.proofs.Rank.{quarters_by_bit}
use Rattle.board.proofs.Under.{along_where}

-- one where the bit is one
pub length_if_one : (bit : ℕ) (e : Entry) → bit < 2 → length (if_one bit (e ∷ [])) ≡ bit
unfolding if_one
length_if_one zero e h = refl
length_if_one (suc zero) e h = refl
length_if_one (suc (suc n)) e h = absurd (omega arith)

-- the ones of the first quarters are no more than all
pub ones_so_far : (bits q : ℕ) → q < 4 → ones_to bits q + bit_of bits q ≤ ones_of bits
unfolding ones_to ones_of
ones_so_far bits zero h = omega arith
ones_so_far bits (suc zero) h = omega arith
ones_so_far bits (suc (suc zero)) h = omega arith
ones_so_far bits (suc (suc (suc zero))) h = omega arith
ones_so_far bits (suc (suc (suc (suc q)))) h = absurd (omega arith)

-- all of them
pub ones_to_all : (bits : ℕ) → ones_to bits 4 ≡ ones_of bits
unfolding ones_to ones_of
ones_to_all bits = omega arith

-- one quarter more
pub ones_to_suc : (bits q : ℕ) → ones_to bits (suc q) ≡ ones_to bits q + bit_of bits q
unfolding ones_to
ones_to_suc bits q = refl

-- four bits and the group of the first one: what they open to
module _ (k first bits : ℕ) (b : Box) where
  -- what the first q quarters open to; the groups of the ones follow one another
  unfoldable pub kids_to : ℕ → List Entry
  kids_to zero = []
  kids_to (suc q) = kids_to q ++ if_one (bit_of bits q) (entry k (first + ones_to bits q) (quarter q b))

  -- none
  pub kids_to_none : kids_to 0 ≡ []
  unfolding kids_to
  kids_to_none = refl

  -- one quarter more
  pub kids_to_suc : (q next : ℕ) → next ≡ first + ones_to bits q → kids_to (suc q) ≡ kids_to q ++ if_one (bit_of bits q) (entry k next (quarter q b))
  unfolding kids_to
  kids_to_suc q next e = rw e

  -- all four
  pub kids_to_all : kids_to 4 ≡ along (entry k) first (quarters bits b)
  unfolding kids_to along ones_to
  kids_to_all = rw (quarters_by_bit, along_where, along_where _ bits 1, along_where _ bits 2, along_where _ bits 3, append-nil) (simp (add-zero, append_assoc, ← add_assoc))

  -- as many as the ones so far
  pub length_kids_to : (q : ℕ) → length (kids_to q) ≡ ones_to bits q
  unfolding kids_to ones_to
  length_kids_to zero = refl
  length_kids_to (suc q) =
      rw length-append (omega (arith, length_kids_to q, length_if_one (bit_of bits q) (entry_at k (first + ones_to bits q) (quarter q b)) (bit_small bits q)))

-- the corner of a quarter, from the corner of its box
pub quarter_row : (k x r half : ℕ) → r ≡ x * 2 ^ suc k → r + half * 2 ^ k ≡ (2 * x + half) * 2 ^ k
quarter_row k x r half e = rw (e, add-mul, pow-succ' 2 k) (ap (λ (n : ℕ). n + half * 2 ^ k) (sym (mul_assoc x 2 (2 ^ k)) ∙ ap (λ (n : ℕ). n * 2 ^ k) (mul_comm x 2)))

-- at most four
pub ones_few : (bits : ℕ) → ones_of bits ≤ 4
unfolding ones_of
ones_few bits = omega (arith, bit_small bits 0, bit_small bits 1, bit_small bits 2, bit_small bits 3)

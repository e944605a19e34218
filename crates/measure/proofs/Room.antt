-- What a writer answers, by its number and its room.
use Prim.Native.Nat.{ℕ, ◌≤◌}
use mathlib.Core.Bool.{Bool, true, false, ◌&&◌}
use mathlib.Core.Path.{◌≡◌, refl}
use lib.Dec.{leb}
use borrow.Author.Tests.{le-leb, leb-true}
use Rattle.refusal.specs.Answer.{Served, Refused, ◌unless◌}
use Rattle.refusal.proofs.Tests.{both}

-- a number within its limit and a text within its room
pub within : (a most k room : ℕ) → a ≤ most → k ≤ room → (13 unless (leb a most && leb k room)) ≡ Served true
within a most k room h j = rw (le-leb a most h, le-leb k room j)

-- one of the two is not
pub without : (a most k room : ℕ) → (a ≤ most → k ≤ room → ⊥) → (13 unless (leb a most && leb k room)) ≡ Refused 13
without a most k room wrong = by_test (leb a most && leb k room) refl
  where
    by_test : (s : Bool) → leb a most && leb k room ≡ s → (13 unless s) ≡ Refused 13
    by_test true e = let w = both (leb a most) (leb k room) e in absurd (wrong (leb-true a most w.0) (leb-true k room w.1))
    by_test false e = refl

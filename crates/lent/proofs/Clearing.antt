-- Zeros written one after the other into a list, of whatever type its numbers are.
use Rattle.std.proofs.Common.{◌≡◌, ℕ, zero, suc, List, [], ◌∷◌, ◌++◌, ◌<◌, length, replicate, drop, set, refl, ap, arith}

-- n places are written, and then one more
pub one_more : {A : Type 0} (n : ℕ) (y : A) (list : List A) → n < length list → set (replicate n y ++ drop n list) n y ≡ replicate (suc n) y ++ drop (suc n) list
one_more n y [] h = absurd (omega arith)
one_more zero y (x ∷ list) h = refl
one_more (suc n) y (x ∷ list) h = ap (λ rest. y ∷ rest) (one_more n y list (omega arith))

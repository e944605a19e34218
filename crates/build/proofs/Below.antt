-- Lists whose numbers are all below a bound.
use Prim.Native.Nat.{ℕ, zero, suc, ◌<◌}
use mathlib.Core.List.{List, [], ◌∷◌, ◌++◌, map}
use lib.ListN.{get_or}
use Rattle.build.specs.Writing.{fit}

-- two lists in a row
pub below-append : (m : ℕ) (xs ys : List ℕ) → ((i : ℕ) → get_or xs i 0 < m) → ((i : ℕ) → get_or ys i 0 < m) → (i : ℕ) → get_or (xs ++ ys) i 0 < m
below-append m [] ys f g i = g i
below-append m (x ∷ xs) ys f g zero = f 0
below-append m (x ∷ xs) ys f g (suc i) = below-append m xs ys (λ i. f (suc i)) g i

-- the values of a function
pub below-map : (m : ℕ) (f : ℕ → ℕ) (xs : List ℕ) → 0 < m → ((x : ℕ) → f x < m) → (i : ℕ) → get_or (map f xs) i 0 < m
below-map m f [] pos h i = pos
below-map m f (x ∷ xs) pos h zero = h x
below-map m f (x ∷ xs) pos h (suc i) = below-map m f xs pos h i

-- one number
pub below_one : (m x : ℕ) → 0 < m → x < m → (i : ℕ) → get_or (x ∷ []) i 0 < m
below_one m x pos h zero = h
below_one m x pos h (suc i) = pos

-- what there is room for
pub fit_below : (m n : ℕ) (l : List ℕ) → 0 < m → ((i : ℕ) → get_or l i 0 < m) → (i : ℕ) → get_or (fit n l) i 0 < m
unfolding fit
fit_below m zero l pos h i = pos
fit_below m (suc n) [] pos h zero = pos
fit_below m (suc n) [] pos h (suc i) = fit_below m n [] pos h i
fit_below m (suc n) (x ∷ l) pos h zero = h 0
fit_below m (suc n) (x ∷ l) pos h (suc i) = fit_below m n l pos (λ i. h (suc i)) i

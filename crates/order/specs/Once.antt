-- What is found in the first places of a list, left there.
use Rattle.std.specs.Prelude.{ℕ, ◌-◌, ◌≤◌, ◌≡◌, List, ◌++◌, length, take, drop, replicate}
use Rattle.order.specs.Order.{sort, distinct}

-- m holds the r that were found, zeros behind them up to place n, and then the rest
pub record Left (found rest m : List ℕ) (n r : ℕ) : Type 0 where
  pub many : r ≡ length found
  pub few : r ≤ n
  pub has : m ≡ found ++ replicate (n - r) 0 ++ rest

-- of equal neighbours among the first n one is left
abbrev pub Dropped : List ℕ → List ℕ → ℕ → ℕ → Type 0
Dropped l m n r = Left (distinct (take n l)) (drop n l) m n r

-- the first n are left in rising order, each once
abbrev pub Tidied : List ℕ → List ℕ → ℕ → ℕ → Type 0
Tidied l m n r = Left (distinct (sort (take n l))) (drop n l) m n r

-- Groups that the check reads at once.
use Rattle.std.specs.Prelude.{ℕ, ◌+◌, ◌*◌, ◌≤◌, ◌<◌, ◌≡◌, List, length}
use Rattle.bitmap.specs.Bits.{group_at, ones_before}

-- how many
abbrev pub run : ℕ
run = 16

-- so many groups from group g on are there, none is zero, and these are their ones
pub record Sound16 (bytes : List ℕ) (g ones : ℕ) : Type 0 where
  pub there : g + run ≤ 2 * length bytes
  pub full : (i : ℕ) → g ≤ i → i < g + run → 1 ≤ group_at bytes i
  pub sum : ones_before bytes (4 * (g + run)) ≡ ones_before bytes (4 * g) + ones

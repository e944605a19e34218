-- The pending entries stand in the first places of the two work lists. They are spoken of as a bag: how often each stands there, and not where.
use Rattle.std.specs.Prelude.{ℕ, ◌+◌, ◌-◌, ◌^◌, ◌≤◌, ◌<◌, ◌≡◌, List, [], ◌∷◌, length, get_or, take}
use Rattle.order.specs.Bag.{same, count}
use Rattle.order.specs.Heap.{parent}
use Rattle.search.specs.Entries.{pack}

-- keys and corners, place by place
unfoldable pub packed : List ℕ → List ℕ → List ℕ
packed [] cs = []
packed (k ∷ ks) [] = []
packed (k ∷ ks) (c ∷ cs) = pack k c ∷ packed ks cs

-- the n pending entries
abbrev pub pending_in : ℕ → List ℕ → List ℕ → List ℕ
pending_in n keys corners = take n (packed keys corners)

-- the first n keys lie in heap order: none is below the one that it lies under
abbrev pub Heaped : ℕ → List ℕ → Type 0
Heaped n keys = (j : ℕ) → 1 ≤ j → j < n → get_or keys (parent j) 0 ≤ get_or keys j 0

-- of n pending entries one leaves, and the others stay; no key behind them changes. In heap order it has a smallest key, and the others lie so again
pub record Taken (n : ℕ) (keys corners : List ℕ) (key corner : ℕ) (keys' corners' : List ℕ) : Type 0 where
  pub corner_fits : corner < 2 ^ 32
  pub smallest : Heaped n keys → (i : ℕ) → i < n → key ≤ get_or keys i 0
  pub ordered : Heaped n keys → Heaped (n - 1) keys'
  pub leaves : (x : ℕ) → count x (pending_in n keys corners) ≡ same x (pack key corner) + count x (pending_in (n - 1) keys' corners')
  pub behind : (i : ℕ) → n ≤ i → get_or keys' i 0 ≡ get_or keys i 0
  pub keys_long : length keys' ≡ length keys
  pub corners_long : length corners' ≡ length corners

-- beside n pending entries new ones become pending; no key behind them changes. Heap order is kept
pub record Added (n : ℕ) (new keys corners keys' corners' : List ℕ) : Type 0 where
  pub ordered : Heaped n keys → Heaped (n + length new) keys'
  pub joins : (x : ℕ) → count x (pending_in (n + length new) keys' corners') ≡ count x new + count x (pending_in n keys corners)
  pub behind : (i : ℕ) → n + length new ≤ i → get_or keys' i 0 ≡ get_or keys i 0
  pub keys_long : length keys' ≡ length keys
  pub corners_long : length corners' ≡ length corners

-- How a bitmap is written: group by group, level by level, into the room there is.
use Rattle.std.specs.Prelude.{ℕ, zero, suc, ◌+◌, ◌*◌, ◌-◌, ◌/◌, ◌%◌, ◌^◌, ◌<◌, ◌≡◌, List, [], ◌∷◌, map, length, get_or, set}
use Rattle.build.specs.Build.{boxes_of, group_of, pack}

-- four bits as group g has them in its byte
abbrev pub in_byte : ℕ → ℕ → ℕ
in_byte g bits = bits * 16 ^ (1 - g % 2)

-- the bytes with four bits added at group g; nothing past the end
unfoldable pub put_group : List ℕ → ℕ → ℕ → List ℕ
put_group bytes g bits = set bytes (g / 2) (get_or bytes (g / 2) 0 + in_byte g bits)

-- n places with a list in them from the first on: what there is room for, and zeros behind it
unfoldable pub fit : ℕ → List ℕ → List ℕ
fit zero l = []
fit (suc n) [] = 0 ∷ fit n []
fit (suc n) (x ∷ l) = x ∷ fit n l

-- the groups of the boxes of side 2 ^ suc s that hold one of the cells
unfoldable pub level_of : ℕ → List ℕ → List ℕ
level_of s codes = map (group_of (boxes_of s codes)) (boxes_of (suc s) codes)

-- what a quarter's bit is worth in its group, by the quarter's code
abbrev pub worth : ℕ → ℕ
worth y = 2 ^ (3 - y % 4)

-- these groups are written, and g is the number of the next
pub record Written (gs : List ℕ) (g : ℕ) (bytes : List ℕ) : Type 0 where
  pub next : g ≡ length gs
  pub small : (i : ℕ) → get_or gs i 0 < 16
  pub has : bytes ≡ fit (length bytes) (pack gs)

-- What the code packs into an entry is the entry's key and corner.
use Prim.Native.Nat.{ℕ, zero, suc, ◌+◌, ◌*◌, ◌^◌, ◌<◌}
use mathlib.Core.Path.{◌≡◌, refl}
use mathlib.Core.List.{List, [], ◌∷◌, map}
use native.Mathlib.Omega.{arith}
use native.Mathlib.Nat.{mul-one}
use Rattle.board.specs.Limits.{max_height}
use Rattle.board.specs.Levels.{Box}
use Rattle.board.specs.Under.{if_one}
use Rattle.board.specs.Kids.{entry}
use Rattle.search.specs.Near.{Place, near, near_at}
use Rattle.search.specs.Keys.{key, cell_id, joint_key, box_key, key_at}
use Rattle.search.specs.Entries.{corner_at, pack_of, pack}
use Rattle.keys.specs.Places.{Fits, Corner, Packs}
use Rattle.seek.specs.Pending.{Added}
use Rattle.seek.proofs.Lists.{added_none}

module _ (p : Place) (g row col x : ℕ) (b : Box) where
  -- a joint's
  pub packs_joint : (level d : ℕ) → level ≡ 0 → Corner level row col b → d ≡ near_at p (2 ^ level) row col → x ≡ key d 1 (cell_id (record { row = row; col = col })) → Packs p level g b x 0
  unfolding key_at joint_key near corner_at
  packs_joint (suc n) d z at e f = absurd (omega arith)
  packs_joint zero d z at e f =
      let r : row ≡ b.row = omega (arith, at.rows) in
      let c : col ≡ b.col = omega (arith, at.columns) in
      let same : d ≡ near_at p 1 (b.row * 1) (b.col * 1) = rw (mul-one, mul-one, ← r, ← c) e in
      record { key = omega arith; corner = refl }

  -- a box's
  pub packs_box : (level d : ℕ) → (level ≡ 0 → ⊥) → Corner level row col b → d ≡ near_at p (2 ^ level) row col → x ≡ key d 0 g → Packs p level g b x ((level * 4096 + row) * 4096 + col)
  unfolding key_at box_key near corner_at
  packs_box zero d z at e f = absurd (z refl)
  packs_box (suc n) d z at e f =
      let same : d ≡ near_at p (2 ^ suc n) (b.row * 2 ^ suc n) (b.col * 2 ^ suc n) = rw (← at.rows, ← at.columns) e in
      record { key = omega arith; corner = rw (← at.rows, ← at.columns) refl }

-- a corner has room in 32 bits
pub corner_room : {level row col : ℕ} → Fits level row col → (level * 4096 + row) * 4096 + col < 2 ^ 32
unfolding max_height
corner_room f = omega (arith, f.low, f.rows, f.columns)

module _ (p : Place) (level g n : ℕ) (b : Box) (ks cs : List ℕ) where
  -- where the bit is zero nothing is added
  pub joined_none : (bit : ℕ) → bit ≡ 0 → Added n (map (pack_of p) (if_one bit (entry level g b))) ks cs ks cs
  unfolding if_one
  joined_none zero z = added_none n ks cs
  joined_none (suc m) z = absurd (omega arith)

  -- where it is one the quarter's entry is
  pub joined_one : (bit k c : ℕ) (ks' cs' : List ℕ) → (bit ≡ 0 → ⊥) → Packs p level g b k c → Added n (pack k c ∷ []) ks cs ks' cs' → Added n (map (pack_of p) (if_one bit (entry level g b))) ks cs ks' cs'
  unfolding if_one
  joined_one zero k c ks' cs' z at s = absurd (z refl)
  joined_one (suc m) k c ks' cs' z at s = rw (at.key, at.corner) at s

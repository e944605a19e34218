-- The rank directory: one 16-bit number for each started block of 64 bytes, the number of ones before that block.
use Rattle.std.specs.Prelude.{ℕ, ◌+◌, ◌*◌, ◌-◌, ◌/◌, Bool, true, false, ◌&&◌, List, [], ◌∷◌, map, length, eqb}
use Rattle.order.specs.Order.{from}
use Rattle.bitmap.specs.Bits.{ones_before}

-- the bytes of a block
abbrev pub block_bytes : ℕ
block_bytes = 64

-- the bits of a block
abbrev pub block_bits : ℕ
block_bits = 8 * block_bytes

-- the started blocks of n bytes
unfoldable pub blocks : ℕ → ℕ
blocks n = (n + (block_bytes - 1)) / block_bytes

-- the ones before each block
unfoldable pub directory_of : List ℕ → List ℕ
directory_of bytes = map (λ (k : ℕ). ones_before bytes (block_bits * k)) (from 0 (blocks (length bytes)))

-- whether two lists of numbers are equal
unfoldable pub alike : List ℕ → List ℕ → Bool
alike [] [] = true
alike [] (y ∷ ys) = false
alike (x ∷ xs) [] = false
alike (x ∷ xs) (y ∷ ys) = eqb x y && alike xs ys

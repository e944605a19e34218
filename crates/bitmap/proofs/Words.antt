-- Words: the bytes of a word, its ones, and what a test of all its groups at once says.
use Prim.Native.Nat.{ℕ, zero, suc, ◌+◌, ◌*◌, ◌-◌, ◌/◌, ◌%◌, ◌^◌, ◌≤◌, ◌<◌, min, max}
use mathlib.Core.Path.{◌≡◌, refl, ◌∙◌}
use mathlib.Core.List.{List}
use native.Mathlib.Omega.{arith}
use native.Mathlib.Nat.{add-zero, add_comm, div-one}
use lib.Count.{ones, ones_cat, ones-le}
use lib.Bits.{bit_and, bit_or, and_step, or_step, and_shr, or_shr}
use lib.Pow.{shr-shr}
use lib.ListN.{get_or}
use Rattle.bitmap.specs.Bits.{group_at, ones_before}
use Rattle.bitmap.specs.Words.{word_at, Bytes}
use Rattle.bitmap.proofs.Ones.{group_even, group_odd}
use Rattle.bitmap.proofs.Bytes.{ones_before_byte}

-- four bytes, as the code adds them
pub word_four : (bytes : List ℕ) (i : ℕ)
    → word_at bytes i 4 ≡ get_or bytes i 0 + 256 * get_or bytes (i + 1) 0 + 65536 * get_or bytes (i + 2) 0 + 16777216 * get_or bytes (i + 3) 0
unfolding word_at
word_four bytes i =
    let e1 : i + 1 ≡ suc i = omega arith in
    let e2 : i + 2 ≡ suc (suc i) = omega arith in
    let e3 : i + 3 ≡ suc (suc (suc i)) = omega arith in
    rw (e1, e2, e3) (omega arith)

-- eight, as two fours
pub word_eight : (bytes : List ℕ) (i : ℕ) → word_at bytes i 8 ≡ word_at bytes i 4 + 4294967296 * word_at bytes (i + 4) 4
unfolding word_at
word_eight bytes i =
    let e4 : i + 4 ≡ suc (suc (suc (suc i))) = omega arith in
    rw e4 (omega arith)

-- the ones of a word
pub word_ones : (bytes : List ℕ) (i n : ℕ) → Bytes bytes
    → (ones_before bytes (8 * (i + n)) ≡ ones_before bytes (8 * i) + ones (word_at bytes i n)) × (ones (word_at bytes i n) ≤ 8 * n)
unfolding word_at
word_ones bytes i zero b = (rw add-zero (unfold ones in omega arith), unfold ones in omega arith)
word_ones bytes i (suc n) b =
    let on : i + suc n ≡ suc i + n = omega arith in
    let split : get_or bytes i 0 + 256 * word_at bytes (suc i) n ≡ word_at bytes (suc i) n * 2 ^ 8 + get_or bytes i 0 = omega arith in
    let rest = word_ones bytes (suc i) n b in
    rw (on, split, ones_cat 8 (word_at bytes (suc i) n) (get_or bytes i 0) (b i)) (omega (arith, rest.0, ones_before_byte bytes i (b i)), omega (arith, rest.1, ones-le 8 (get_or bytes i 0) (b i)))

-- one word on, as a loop counts
pub word_step : (bytes : List ℕ) (from i w : ℕ) → w ≡ word_at bytes (from + 8 * i) 8 → Bytes bytes
    → (ones_before bytes (8 * (from + 8 * (i + 1))) ≡ ones_before bytes (8 * (from + 8 * i)) + ones w) × (ones w ≤ 64)
word_step bytes from i w e b =
    let on : from + 8 * (i + 1) ≡ from + 8 * i + 8 = omega arith in
    rw (e, on) (word_ones bytes (from + 8 * i) 8 b)

-- byte j of a word
pub word_byte : (bytes : List ℕ) (i n j : ℕ) → Bytes bytes → j < n → word_at bytes i n / 2 ^ (8 * j) % 256 ≡ get_or bytes (i + j) 0
unfolding word_at
word_byte bytes i zero j b h = absurd (omega arith)
word_byte bytes i (suc n) zero b h = rw (add-zero i, div-one) (omega (arith, b i))
word_byte bytes i (suc n) (suc j) b h =
    let at : 8 * suc j ≡ 8 + 8 * j = omega arith in
    let on : i + suc j ≡ suc i + j = omega arith in
    let high : (get_or bytes i 0 + 256 * word_at bytes (suc i) n) / 2 ^ 8 ≡ word_at bytes (suc i) n = omega (arith, b i) in
    rw (at, on, ← shr-shr, high) (word_byte bytes (suc i) n j b (omega arith))

-- a one at every fourth digit, n of them
unfoldable pub marks : ℕ → ℕ
marks zero = 0
marks (suc n) = 1 + 16 * marks n

pub mark : (n m : ℕ) → m < n → marks n / 2 ^ (4 * m) % 2 ≡ 1
unfolding marks
mark zero m h = absurd (omega arith)
mark (suc n) zero h = rw div-one (omega arith)
mark (suc n) (suc m) h =
    let at : 4 * suc m ≡ 4 + 4 * m = omega arith in
    let high : (1 + 16 * marks n) / 2 ^ 4 ≡ marks n = omega arith in
    rw (at, ← shr-shr, high) (mark n m (omega arith))

-- the last digit of both, and of either
and_last : (a b : ℕ) → bit_and a b % 2 ≡ min (a % 2) (b % 2)
and_last a b = omega (arith, and_step a b)

or_last : (a b : ℕ) → bit_or a b % 2 ≡ max (a % 2) (b % 2)
or_last a b = omega (arith, or_step a b)

-- every digit of a number or of the three above it, as the code has it
abbrev pub spread : ℕ → ℕ
spread w = bit_or (bit_or w (w / 2 ^ 1)) (bit_or w (w / 2 ^ 1) / 2 ^ 2)

spread_shr : (w k : ℕ) → spread w / 2 ^ k ≡ spread (w / 2 ^ k)
spread_shr w k =
    let one : w / 2 ^ 1 / 2 ^ k ≡ w / 2 ^ k / 2 ^ 1 = rw (shr-shr, shr-shr, add_comm 1 k) in
    let pairs : bit_or w (w / 2 ^ 1) / 2 ^ k ≡ bit_or (w / 2 ^ k) (w / 2 ^ k / 2 ^ 1) = rw (or_shr, one) in
    let two : bit_or w (w / 2 ^ 1) / 2 ^ 2 / 2 ^ k ≡ bit_or w (w / 2 ^ 1) / 2 ^ k / 2 ^ 2 = rw (shr-shr, shr-shr, add_comm 2 k) in
    or_shr (bit_or w (w / 2 ^ 1)) (bit_or w (w / 2 ^ 1) / 2 ^ 2) k ∙ rw (two, pairs)

-- of four digits that are all zero none is left
spread_none : (v : ℕ) → v % 16 ≡ 0 → spread v % 2 ≡ 0
spread_none v none =
    let e0 : v ≡ 16 * (v / 16) = omega arith in
    let e1 : v / 2 ^ 1 ≡ 8 * (v / 16) = omega arith in
    let e2 : v / 2 ^ 2 ≡ 4 * (v / 16) = omega arith in
    let e3 : v / 2 ^ 1 / 2 ^ 2 ≡ 2 * (v / 16) = omega arith in
    let b0 : v % 2 ≡ 0 = rw e0 (omega arith) in
    let b1 : v / 2 ^ 1 % 2 ≡ 0 = rw e1 (omega arith) in
    let b2 : v / 2 ^ 2 % 2 ≡ 0 = rw e2 (omega arith) in
    let b3 : v / 2 ^ 1 / 2 ^ 2 % 2 ≡ 0 = rw e3 (omega arith) in
    let low : bit_or v (v / 2 ^ 1) % 2 ≡ 0 = or_last v (v / 2 ^ 1) ∙ rw (b0, b1) in
    let high : bit_or v (v / 2 ^ 1) / 2 ^ 2 % 2 ≡ 0 = rw or_shr (or_last (v / 2 ^ 2) (v / 2 ^ 1 / 2 ^ 2) ∙ rw (b2, b3)) in
    or_last (bit_or v (v / 2 ^ 1)) (bit_or v (v / 2 ^ 1) / 2 ^ 2) ∙ rw (low, high)

-- where every mark is left, no four digits under a mark are all zero
pub digits_pos : (w m k : ℕ) → bit_and (spread w) m ≡ m → m / 2 ^ k % 2 ≡ 1 → 1 ≤ w / 2 ^ k % 16
digits_pos w m k all here = go (w / 2 ^ k % 16) refl
  where
    go : (d : ℕ) → w / 2 ^ k % 16 ≡ d → 1 ≤ d
    go zero e =
        let both : bit_and (spread w) m / 2 ^ k ≡ bit_and (spread (w / 2 ^ k)) (m / 2 ^ k) = rw (and_shr, spread_shr w k) in
        absurd (omega (arith, rw all at both, and_last (spread (w / 2 ^ k)) (m / 2 ^ k), spread_none (w / 2 ^ k) e))
    go (suc d) e = omega arith

-- a word of eight bytes that passes that test has no group that is zero
pub groups_pos : (bytes : List ℕ) (g : ℕ) → Bytes bytes → g % 2 ≡ 0 → bit_and (spread (word_at bytes (g / 2) 8)) (marks 16) ≡ marks 16
    → (i : ℕ) → g ≤ i → i < g + 16 → 1 ≤ group_at bytes i
groups_pos bytes g b even all i low high = go (i % 2) refl (i / 2 - g / 2) (omega arith)
  where
    digit : (m : ℕ) → m < 16 → 1 ≤ word_at bytes (g / 2) 8 / 2 ^ (4 * m) % 16
    digit m h = digits_pos (word_at bytes (g / 2) 8) (marks 16) (4 * m) all (mark 16 m h)

    go : (r : ℕ) → i % 2 ≡ r → (j : ℕ) → g / 2 + j ≡ i / 2 → 1 ≤ group_at bytes i
    go zero e j at =
        let byte = rw at at (word_byte bytes (g / 2) 8 j b (omega arith)) in
        let k : 4 * (2 * j + 1) ≡ 8 * j + 4 = omega arith in
        let four = rw (k, ← shr-shr) at (digit (2 * j + 1) (omega arith)) in
        rw (group_even bytes i e (b (i / 2))) (omega (arith, byte, four))
    go (suc zero) e j at =
        let byte = rw at at (word_byte bytes (g / 2) 8 j b (omega arith)) in
        let k : 4 * (2 * j) ≡ 8 * j = omega arith in
        let four = rw k at (digit (2 * j) (omega arith)) in
        rw (group_odd bytes i e) (omega (arith, byte, four))
    go (suc (suc r)) e j at = absurd (omega arith)

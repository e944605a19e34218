-- Powers and digits as the code has them: shifts for powers of four, a shifted 8 for a quarter's bit, halves of a byte for groups.
use Prim.Native.Nat.{ℕ, zero, suc, ◌*◌, ◌-◌, ◌/◌, ◌%◌, ◌^◌, ◌<◌}
use mathlib.Core.Path.{◌≡◌, refl}
use native.Mathlib.Omega.{arith}
use native.Mathlib.Nat.{pow-suc}
use Rattle.build.specs.Writing.{worth}

-- two bits are a digit to base four
pub two_bits : (s : ℕ) → 2 ^ (2 * s) ≡ 4 ^ s
two_bits zero = refl
two_bits (suc s) =
    let e : 2 * suc s ≡ suc (suc (2 * s)) = omega arith in
    rw (e, pow-suc, pow-suc, pow-suc 4 s) (omega (arith, two_bits s))

-- the first quarter's bit is worth 8, and each next one half of it
pub worth_shifted : (y : ℕ) → 8 / 2 ^ (y % 4) ≡ worth y
worth_shifted y = go (y % 4) (omega arith)
  where
    go : (q : ℕ) → q < 4 → 8 / 2 ^ q ≡ 2 ^ (3 - q)
    go zero h = refl
    go (suc zero) h = refl
    go (suc (suc zero)) h = refl
    go (suc (suc (suc zero))) h = refl
    go (suc (suc (suc (suc q)))) h = absurd (omega arith)

-- a bit of a group is one of four
pub worth_small : (y : ℕ) → worth y < 9
worth_small y = go (y % 4) (omega arith)
  where
    go : (q : ℕ) → q < 4 → 2 ^ (3 - q) < 9
    go zero h = omega arith
    go (suc zero) h = omega arith
    go (suc (suc zero)) h = omega arith
    go (suc (suc (suc zero))) h = omega arith
    go (suc (suc (suc (suc q)))) h = absurd (omega arith)

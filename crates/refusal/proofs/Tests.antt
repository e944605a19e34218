-- Tests that hold.
use Prim.Native.Nat.{ℕ}
use mathlib.Core.Bool.{Bool, true, false, ◌&&◌}
use mathlib.Core.Path.{◌≡◌, refl}
use native.Mathlib.Omega.{arith}

-- a test that fails does not hold
pub fails : {A : Type 0} → false ≡ true → A
fails e = let z : ◌≡◌ {A = ℕ} 0 1 = cc in absurd (omega arith)

-- two tests hold, and so each
pub both : (s t : Bool) → s && t ≡ true → (s ≡ true) × (t ≡ true)
both true t e = (refl, e)
both false t e = fails e

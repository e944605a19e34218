-- A list written into so many places: what there is room for, and zeros behind it. So groups are put one by one, and counted on past the room.
use Prim.Native.Nat.{ℕ, zero, suc, ◌+◌, ◌*◌, ◌-◌, ◌/◌, ◌%◌, ◌^◌, ◌≤◌, ◌<◌}
use mathlib.Core.Path.{◌≡◌, refl, sym, ap, ◌∙◌}
use mathlib.Core.List.{List, [], ◌∷◌, ◌++◌}
use native.Mathlib.Omega.{arith}
use lib.ListN.{length, get_or, length-set, replicate}
use lib.Seq.{get_or-set_same}
use Rattle.build.specs.Build.{pack}
use Rattle.build.specs.Writing.{put_group, fit}
use Rattle.build.proofs.Below.{fit_below}
use Rattle.build.proofs.Pack.{pack_bytes}

-- nothing leaves zeros
pub fit_none : (n : ℕ) → fit n [] ≡ replicate n 0
unfolding fit
fit_none zero = refl
fit_none (suc n) = ap (λ (l : List ℕ). 0 ∷ l) (fit_none n)

-- a list that has room, and zeros behind it
pub fit_all : (n : ℕ) (l : List ℕ) → length l ≤ n → fit n l ≡ l ++ replicate (n - length l) 0
unfolding fit
fit_all zero [] h = refl
fit_all zero (x ∷ l) h = absurd (omega arith)
fit_all (suc n) [] h = let e : suc n - 0 ≡ suc n = omega arith in rw e (fit_none (suc n))
fit_all (suc n) (x ∷ l) h =
    let e : suc n - suc (length l) ≡ n - length l = omega arith in
    rw e (ap (λ (l : List ℕ). x ∷ l) (fit_all n l (omega arith)))

-- the places are as many as before
pub fit_length : (n : ℕ) (l : List ℕ) → length (fit n l) ≡ n
unfolding fit
fit_length zero l = refl
fit_length (suc n) [] = ap suc (fit_length n [])
fit_length (suc n) (x ∷ l) = ap suc (fit_length n l)

-- putting a group keeps the length
pub put-length : (l : List ℕ) (g bits : ℕ) → length (put_group l g bits) ≡ length l
unfolding put_group
put-length l g bits = length-set l (g / 2) _

-- a group put two places on is put into the next byte
put_shift : (x : ℕ) (l : List ℕ) (g bits : ℕ) → put_group (x ∷ l) (suc (suc g)) bits ≡ x ∷ put_group l g bits
unfolding put_group
put_shift x l g bits =
    let at : suc (suc g) / 2 ≡ suc (g / 2) = omega arith in
    let off : suc (suc g) % 2 ≡ g % 2 = omega arith in
    rw (at, off)

-- one group more is put at its number
pub fit_put : (n : ℕ) (gs : List ℕ) (bits : ℕ) → fit n (pack (gs ++ bits ∷ [])) ≡ put_group (fit n (pack gs)) (length gs) bits
unfolding fit pack put_group
fit_put zero gs bits = refl
fit_put (suc n) [] bits =
    let e : 16 * bits ≡ 0 + bits * 16 ^ 1 = omega arith in
    ap (λ (x : ℕ). x ∷ fit n []) e
fit_put (suc n) (a ∷ []) bits =
    let e : 16 * a + bits ≡ 16 * a + bits * 16 ^ 0 = omega arith in
    ap (λ (x : ℕ). x ∷ fit n []) e
fit_put (suc n) (a ∷ b ∷ gs) bits = ap (λ (l : List ℕ). (16 * a + b) ∷ l) (fit_put n gs bits) ∙ sym (put_shift (16 * a + b) (fit n (pack gs)) (length gs) bits)

-- what is put is a byte again
pub put_byte : (n : ℕ) (gs : List ℕ) (bits : ℕ) → ((i : ℕ) → get_or (gs ++ bits ∷ []) i 0 < 16) → length gs / 2 < n
    → get_or (fit n (pack gs)) (length gs / 2) 0 + bits * 16 ^ (1 - length gs % 2) < 256
unfolding put_group
put_byte n gs bits small room =
    let at = fit_below 256 n (pack (gs ++ bits ∷ [])) (omega arith) (pack_bytes (gs ++ bits ∷ []) small) (length gs / 2) in
    let same = get_or-set_same (fit n (pack gs)) (length gs / 2) (get_or (fit n (pack gs)) (length gs / 2) 0 + bits * 16 ^ (1 - length gs % 2)) 0 (rw fit_length room) in
    rw same at (rw (fit_put n gs bits) at at)

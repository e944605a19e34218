-- The directory by its entries, and what its making and its check keep, byte by byte.
use Prim.Native.Nat.{ℕ, zero, suc, ◌+◌, ◌*◌, ◌/◌, ◌≤◌, ◌<◌}
use mathlib.Core.Bool.{Bool, true, false, ◌&&◌}
use mathlib.Core.Logic.{◌↔◌}
use mathlib.Core.Path.{◌≡◌, refl, sym, ap, ◌∙◌}
use mathlib.Core.List.{List, [], ◌∷◌, map}
use native.Mathlib.Omega.{arith}
use native.Mathlib.Nat.{add-zero, zero-add}
use lib.ListN.{length, get_or, set, length-map}
use lib.Seq.{ext_get_or, get_or-set_same, get_or-set_other}
use lib.Dec.{eqb}
use borrow.Author.Tests.{eqb-true, eq-eqb}
use Rattle.order.specs.Order.{from}
use Rattle.order.proofs.Cases.{same?}
use Rattle.bitmap.specs.Bits.{ones_before}
use Rattle.bitmap.specs.Directory.{block_bytes, block_bits, blocks, directory_of, alike}

-- n numbers are n
pub length_from : (a n : ℕ) → length (from a n) ≡ n
unfolding from
length_from a zero = refl
length_from a (suc n) = rw (length_from (suc a) n)

-- the k-th of n numbers from a on, under f
get_d_from : (f : ℕ → ℕ) (a n k : ℕ) → k < n → get_or (map f (from a n)) k 0 ≡ f (a + k)
unfolding from
get_d_from f a zero k h = absurd (omega arith)
get_d_from f a (suc n) zero h = rw add-zero
get_d_from f a (suc n) (suc k) h = let on : a + suc k ≡ suc a + k = omega arith in rw on (get_d_from f (suc a) n k (omega arith))

-- it has an entry for each block
pub length_directory : (bytes : List ℕ) → length (directory_of bytes) ≡ blocks (length bytes)
unfolding directory_of
length_directory bytes = rw (length-map, length_from)

-- and this is the entry
pub directory_at : (bytes : List ℕ) (k : ℕ) → k < blocks (length bytes) → get_or (directory_of bytes) k 0 ≡ ones_before bytes (block_bits * k)
unfolding directory_of
directory_at bytes k h = rw zero-add at (get_d_from (λ (k : ℕ). ones_before bytes (block_bits * k)) 0 (blocks (length bytes)) k h)

-- a list with these entries is the directory
pub directory_is : (bytes d : List ℕ) → length d ≡ blocks (length bytes) → ((k : ℕ) → k < blocks (length bytes) → get_or d k 0 ≡ ones_before bytes (block_bits * k)) → d ≡ directory_of bytes
directory_is bytes d l f = ext_get_or 0 d (directory_of bytes) (rw length_directory l) (λ k h. rw (directory_at bytes k (omega arith)) (f k (omega arith)))

-- a list is like itself
pub alike_same : (xs : List ℕ) → alike xs xs ≡ true
unfolding alike
alike_same [] = refl
alike_same (x ∷ xs) = rw (eq-eqb x x refl) (alike_same xs)

-- lists that are alike are equal
pub alike_true : (xs ys : List ℕ) → alike xs ys ≡ true → xs ≡ ys
unfolding alike
alike_true [] [] e = refl
alike_true [] (y ∷ ys) e = absurd (let z : ◌≡◌ {A = ℕ} 0 1 = cc in omega arith)
alike_true (x ∷ xs) [] e = absurd (let z : ◌≡◌ {A = ℕ} 0 1 = cc in omega arith)
alike_true (x ∷ xs) (y ∷ ys) e = go (eqb x y) refl e (alike_true xs ys)
  where
    go : (t : Bool) → eqb x y ≡ t → t && alike xs ys ≡ true → (alike xs ys ≡ true → xs ≡ ys) → x ∷ xs ≡ y ∷ ys
    go true f k r = let a = eqb-true x y f in let b = r k in cc
    go false f k r = absurd (let z : ◌≡◌ {A = ℕ} 0 1 = cc in omega arith)

-- lists that are not equal are not alike
pub alike_false : (xs ys : List ℕ) → (xs ≡ ys → ⊥) → false ≡ alike xs ys
alike_false xs ys n = go (alike xs ys) refl
  where
    go : (t : Bool) → alike xs ys ≡ t → false ≡ t
    go true e = absurd (n (alike_true xs ys e))
    go false e = refl

-- it is taken exactly where it is as long as it must be and every entry is right
pub directory_exactly : (bytes d : List ℕ)
    → (alike d (directory_of bytes) ≡ true) ↔ ((length d ≡ blocks (length bytes)) × ((k : ℕ) → k < blocks (length bytes) → get_or d k 0 ≡ ones_before bytes (block_bits * k)))
directory_exactly bytes d = (
  λ e. let is = alike_true d (directory_of bytes) e in (ap length is ∙ length_directory bytes, λ k h. ap (λ (l : List ℕ). get_or l k 0) is ∙ directory_at bytes k h),
  λ w. ap (λ (l : List ℕ). alike d l) (sym (directory_is bytes d w.0 w.1)) ∙ alike_same d,
)

-- the entry of a byte's block
pub block_entry : (bytes d : List ℕ) (i : ℕ) → d ≡ directory_of bytes → i < length bytes → get_or d (i / block_bytes) 0 ≡ ones_before bytes (8 * (i / block_bytes * block_bytes))
unfolding blocks
block_entry bytes d i e h =
    let at : block_bits * (i / block_bytes) ≡ 8 * (i / block_bytes * block_bytes) = omega arith in
    rw e (rw at at (directory_at bytes (i / block_bytes) (omega arith)))

-- it is there
pub block_there : (bytes d : List ℕ) (i : ℕ) → d ≡ directory_of bytes → i < length bytes → i / block_bytes < length d
unfolding blocks
block_there bytes d i e h = rw (e, length_directory) (omega arith)

-- a block that is there begins before the end
pub block_begins : (bytes : List ℕ) (n : ℕ) → n < blocks (length bytes) → block_bytes * n < length bytes
unfolding blocks
block_begins bytes n h = omega arith

-- the first n entries are right
abbrev pub Filled : List ℕ → ℕ → List ℕ → Type 0
Filled bytes n d = (k : ℕ) → k < n → get_or d k 0 ≡ ones_before bytes (block_bits * k)

-- so many ones before block n, where it begins no later than the end
abbrev pub Counted : List ℕ → ℕ → ℕ → Type 0
Counted bytes n ones = (block_bytes * n ≤ length bytes → ones ≡ ones_before bytes (block_bits * n)) × (ones ≤ ones_before bytes (8 * length bytes))

-- one block on
pub counted_on : (bytes : List ℕ) (n ones r : ℕ) → Counted bytes n ones → block_bytes * n < length bytes
    → (block_bytes * (n + 1) ≤ length bytes → ones_before bytes (block_bits * n) + r ≡ ones_before bytes (block_bits * (n + 1)))
    → ones_before bytes (block_bits * n) + r ≤ ones_before bytes (8 * length bytes) → Counted bytes (n + 1) (ones + r)
counted_on bytes n ones r c h sum most =
    let here : ones ≡ ones_before bytes (block_bits * n) = c.0 (omega arith) in
    (λ l. omega (arith, sum l, here), omega (arith, here, most))

-- one entry more is written
pub filled_store : (bytes d : List ℕ) (n m : ℕ) → Filled bytes n d → n < length d → m ≡ ones_before bytes (block_bits * n) → Filled bytes (n + 1) (set d n m)
filled_store bytes d n m f h s k l =
    same? k n (λ r. rw (r, get_or-set_same d n m 0 h) s) (λ r. get_or-set_other d n k m 0 r ∙ f k (omega arith))

-- at the end it is the directory
pub filled_all : (bytes d : List ℕ) (n : ℕ) → Filled bytes n d → blocks (length bytes) ≤ n → length d ≡ blocks (length bytes) → d ≡ directory_of bytes
filled_all bytes d n f h l = directory_is bytes d l (λ k m. f k (omega arith))

-- an entry that is right
pub filled_test : (bytes d : List ℕ) (n : ℕ) → Filled bytes n d → get_or d n 0 ≡ ones_before bytes (block_bits * n) → Filled bytes (n + 1) d
filled_test bytes d n f h k l = same? k n (λ r. rw r h) (λ r. f k (omega arith))

-- an entry that is wrong
pub filled_wrong : (bytes d : List ℕ) (n : ℕ) → n < blocks (length bytes) → (get_or d n 0 ≡ ones_before bytes (block_bits * n) → ⊥) → false ≡ alike d (directory_of bytes)
filled_wrong bytes d n h e =
    alike_false d (directory_of bytes) (λ r. e (ap (λ (l : List ℕ). get_or l n 0) r ∙ directory_at bytes n h))

-- a length that is wrong
pub length_wrong : (bytes d : List ℕ) → (length d ≡ blocks (length bytes) → ⊥) → false ≡ alike d (directory_of bytes)
length_wrong bytes d n = alike_false d (directory_of bytes) (λ r. n (ap length r ∙ length_directory bytes))

-- every entry is right
pub filled_right : (bytes d : List ℕ) (n : ℕ) → Filled bytes n d → blocks (length bytes) ≤ n → length d ≡ blocks (length bytes) → true ≡ alike d (directory_of bytes)
filled_right bytes d n f h l = rw (← filled_all bytes d n f h l) (sym (alike_same d))

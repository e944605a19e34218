-- Texts put one after the other into a list are put as one text.
use Prim.Native.Nat.{ℕ, suc, ◌+◌, ◌≤◌, ◌<◌}
use native.Mathlib.Numerals.{add-one}
use mathlib.Core.Path.{◌≡◌, refl, ap, sym, ◌∙◌}
use mathlib.Core.List.{List, [], ◌∷◌, ◌++◌, append-nil, flat_map}
use native.Mathlib.Omega.{arith}
use lib.ListN.{length, length-append, set, get_or, take, drop, take-append-drop}
use lib.Seq.{sets, length-sets, take-suc}
use Rattle.order.proofs.Total.{flat_map-append}
use Rattle.text.specs.Text.{Put}

-- stores of two lists in a row
sets_append : (a b l : List ℕ) (at : ℕ) → sets l at (a ++ b) ≡ sets (sets l at a) (at + length a) b
sets_append [] b l at = ap (λ (n : ℕ). sets l n b) (omega arith)
sets_append (x ∷ a) b l at = sets_append a b (set l at x) (suc at) ∙ ap (λ (n : ℕ). sets (sets (set l at x) (suc at) a) n b) (omega arith)

-- nothing is made longer
pub put-length : {a : List ℕ} {at r : ℕ} {was is : List ℕ} → Put a at was r is → length is ≡ length was
put-length {a} {at} {r} {was} {is} p = rw p.bytes (length-sets was at a)

-- no text
pub put_none : (at : ℕ) (l : List ℕ) → at ≤ length l → Put [] at l at l
put_none at l h = record { place = omega arith; fits = h; bytes = refl }

-- one byte
pub put_one : (b at : ℕ) (l : List ℕ) → at < length l → Put (b ∷ []) at l (at + 1) (set l at b)
put_one b at l h = record { place = refl; fits = omega arith; bytes = refl }

-- a text behind a text
pub put_then : {a b : List ℕ} {at m r : ℕ} {was mid is : List ℕ} → Put a at was m mid → Put b m mid r is → Put (a ++ b) at was r is
put_then {a} {b} {at} {m} {r} {was} {mid} {is} p q = record {
  place = rw length-append (omega (arith, p.place, q.place));
  fits = omega (arith, q.fits, put-length p);
  bytes = q.bytes ∙ rw (p.bytes, p.place) (sym (sets_append a b was at));
}

-- a word of which i bytes are put, and one byte more
pub put_more : (word was is : List ℕ) (at i : ℕ) → i < length word → at + i < length is → Put (take i word) at was (at + i) is → Put (take (i + 1) word) at was (at + (i + 1)) (set is (at + i) (get_or word i 0))
put_more word was is at i h j p =
    let more = put_then p (put_one (get_or word i 0) (at + i) is j) in
    let next : at + i + 1 ≡ at + (i + 1) = omega arith in
    rw (add-one i, take-suc word i 0 h) (rw (next, add-one i) at more)

-- the same by the place behind those that are put
pub put_letter : (word : List ℕ) (i : ℕ) {at m : ℕ} {was is : List ℕ} → i < length word → m < length is → Put (take i word) at was m is → Put (take (i + 1) word) at was (m + 1) (set is m (get_or word i 0))
put_letter word i {at} {m} {was} {is} h j p = rw (add-one i, take-suc word i 0 h) (put_then p (put_one (get_or word i 0) m is j))

-- what the first parts of a list make, and one part more
parts_more : {A : Type 0} (f : A → List ℕ) (l : List A) (i : ℕ) (d : A) → i < length l → flat_map f (take (i + 1) l) ≡ flat_map f (take i l) ++ f (get_or l i d)
unfolding flat_map
parts_more f l i d h = rw (add-one i, take-suc l i d h, flat_map-append f (take i l) (get_or l i d ∷ []), append-nil (f (get_or l i d)))

-- the next part has room where all have
pub part_fits : {A : Type 0} (f : A → List ℕ) (l : List A) (i : ℕ) (d : A) → i < length l → length (flat_map f (take i l)) + length (f (get_or l i d)) ≤ length (flat_map f l)
unfolding flat_map
part_fits f l i d h =
    let whole = ap length (flat_map-append f (take (i + 1) l) (drop (i + 1) l)) in
    omega (
      arith,
      rw (take-append-drop (i + 1) l, length-append) at whole,
      rw length-append at (ap length (parts_more f l i d h)),
    )

-- the next part is put
pub put_next : {A : Type 0} (f : A → List ℕ) (l : List A) (i : ℕ) (d : A) {at m r : ℕ} {was mid is : List ℕ} → i < length l → Put (flat_map f (take i l)) at was m mid → Put (f (get_or l i d)) m mid r is → Put (flat_map f (take (i + 1) l)) at was r is
put_next f l i d h p q = rw (parts_more f l i d h) (put_then p q)

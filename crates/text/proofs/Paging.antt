-- Texts put on a page one behind the other are put as one text, and there is room for each where there is room for all.
use Prim.Native.Nat.{ℕ, ◌+◌, ◌≤◌, ◌<◌}
use native.Mathlib.Numerals.{add-one}
use mathlib.Core.Path.{refl, ◌∙◌}
use mathlib.Core.List.{List, [], ◌∷◌, ◌++◌, flat_map}
use native.Mathlib.Omega.{arith}
use lib.ListN.{length, length-append, get_or, take}
use lib.Seq.{take-suc, length-take-le}
use Rattle.text.specs.declared.page.Page.{Page}
use Rattle.text.specs.Page.{Room, Puts}
use Rattle.text.proofs.Putting.{put_none, put_then, put_next, part_fits, put-length}

-- no text
pub puts_none : (page : Page) → page.at ≤ length page.out.now → Puts [] page page
puts_none page h = record { put = put_none page.at page.out.now h; list = (refl, refl) }

-- a text behind a text
pub puts_then : {a b : List ℕ} {was mid is : Page} → Puts a was mid → Puts b mid is → Puts (a ++ b) was is
puts_then p q = record { put = put_then p.put q.put; list = (q.list.0 ∙ p.list.0, q.list.1 ∙ p.list.1) }

-- where there is room for two texts there is room for the first
pub room_first : (a b : List ℕ) (page : Page) → Room (a ++ b) page → Room a page
room_first a b page h = let e = length-append a b in omega (arith, h, e)

-- behind the first of two texts there is room for the second
pub room_behind : (a b : List ℕ) {was mid : Page} → Room (a ++ b) was → Puts a was mid → Room b mid
room_behind a b h p = let e = length-append a b in omega (arith, h, e, p.put.place, put-length p.put)

-- one byte more of a word
pub room_letter : (word : List ℕ) (i : ℕ) {was mid : Page} → i < length word → Room word was → Puts (take i word) was mid → Room (get_or word i 0 ∷ []) mid
room_letter word i h room p = let e = length-take-le i word (omega arith) in omega (arith, room, e, p.put.place, put-length p.put)

pub puts_letter : (word : List ℕ) (i : ℕ) {was mid is : Page} → i < length word → Puts (take i word) was mid → Puts (get_or word i 0 ∷ []) mid is → Puts (take (i + 1) word) was is
puts_letter word i h p q = rw (add-one i, take-suc word i 0 h) (puts_then p q)

-- one part more of a list of parts, each with its own text
pub puts_next : {A : Type 0} (f : A → List ℕ) (l : List A) (i : ℕ) (d : A) {was mid is : Page} → i < length l → Puts (flat_map f (take i l)) was mid → Puts (f (get_or l i d)) mid is → Puts (flat_map f (take (i + 1) l)) was is
puts_next f l i d h p q = record { put = put_next f l i d h p.put q.put; list = (q.list.0 ∙ p.list.0, q.list.1 ∙ p.list.1) }

pub room_next : {A : Type 0} (f : A → List ℕ) (l : List A) (i : ℕ) (d : A) {was mid : Page} → i < length l → Room (flat_map f l) was → Puts (flat_map f (take i l)) was mid → Room (f (get_or l i d)) mid
room_next f l i d h room p = let e = part_fits f l i d h in omega (arith, room, e, p.put.place, put-length p.put)

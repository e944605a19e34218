-- The beginning of a search: the whole board is pending, and nothing else.
use Prim.Native.Nat.{ℕ, zero, suc, ◌+◌, ◌^◌, ◌≤◌, ◌<◌, max}
use mathlib.Core.Path.{◌≡◌, refl, ap, ap₂, ◌∙◌}
use mathlib.Core.List.{List, [], ◌∷◌}
use native.Mathlib.Omega.{arith}
use native.Mathlib.Nat.{zero-mul}
use lib.ListN.{length, replicate, length-replicate}
use lib.Pow.{pow_mono}
use Rattle.order.specs.Bag.{count}
use Rattle.order.proofs.Cases.{same_self, same_cases}
use Rattle.board.specs.Limits.{max_height, max_side}
use Rattle.board.specs.Levels.{root, joints}
use Rattle.board.specs.Ready.{Ready}
use Rattle.board.specs.Kids.{entry_at, whole_board}
use Rattle.board.proofs.Bounds.{side_is}
use Rattle.search.specs.Near.{Place}
use Rattle.search.specs.Entries.{pack, pack_of}
use Rattle.keys.specs.Places.{Fits, Corner, Packs}
use Rattle.seek.specs.Pending.{pending_in, Added}
use Rattle.seek.specs.Search.{Begins}
use Rattle.seek.proofs.Steps.{pending_long}

-- a list of one number that is there is that number
pub one_only : (l : List ℕ) (x : ℕ) → length l ≡ 1 → 1 ≤ count x l → l ≡ x ∷ []
unfolding count
one_only [] x e h = absurd (omega arith)
one_only (y ∷ []) x e h = same_cases x y (λ q s. rw q) (λ n s. absurd (omega arith))
one_only (y ∷ z ∷ l) x e h = absurd (omega arith)

-- the whole board as an entry
pub whole_is : (h : ℕ) → entry_at h 0 root ≡ whole_board h
whole_is zero = refl
whole_is (suc h) = refl

-- it fits
pub whole_fits : {h : ℕ} → h ≤ max_height → Fits h 0 0
whole_fits {h} low =
    let most : 0 + 2 ^ h ≤ max_side = omega (arith, pow_mono {i = h} {j = max_height} low, side_is) in
    record { low = low; rows = most; columns = most }

-- its corner is the first cell
pub whole_corner : (h : ℕ) → Corner h 0 0 root
whole_corner h = record { rows = rw zero-mul; columns = rw zero-mul }

-- once it is added, the search begins
unfoldable pub begins : {p : Place} {h : ℕ} {bytes d : List ℕ} {k : ℕ} {ks cs ks' cs' l : List ℕ} (x c : ℕ) → Ready h bytes d → 0 < k
    → max 1 (length (joints h bytes)) ≤ length ks → max 1 (length (joints h bytes)) ≤ length cs
    → Packs p h 0 root x c → Added 0 (pack x c ∷ []) ks cs ks' cs' → (n : ℕ) → l ≡ replicate n 0
    → Begins p bytes d k (record { opened = 0; pending = 1; handed = 0 }) ks' cs' l
unfolding count
begins {p} {h} {ks' = ks'} {cs' = cs'} x c r some kr cr is a n z =
    let packs : pack x c ≡ pack_of p (whole_board h) = ap₂ pack is.key is.corner ∙ ap (pack_of p) (whole_is h) in
    let there : 1 ≤ count (pack x c) (pending_in 1 ks' cs') = omega (arith, a.joins (pack x c), same_self (pack x c)) in
    record {
      height = h;
      ready = r;
      some = some;
      fresh = refl;
      whole = one_only (pending_in 1 ks' cs') (pack x c) (pending_long 1 ks' cs' (omega (arith, a.keys_long)) (omega (arith, a.corners_long))) there ∙ ap (λ (y : ℕ). y ∷ []) packs;
      keys_room = omega (arith, a.keys_long);
      corners_room = omega (arith, a.corners_long);
      clear = rw (z, length-replicate) refl;
    }

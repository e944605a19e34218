-- A search whose pending entries are kept as a bag of numbers: what is known of it at any time, and that a step keeps it.
use Prim.Native.Nat.{ℕ, zero, suc, ◌+◌, ◌/◌, ◌%◌, ◌^◌, ◌≤◌, ◌<◌}
use mathlib.Core.Path.{◌≡◌, refl, sym, ap, ◌∙◌}
use mathlib.Core.List.{List, [], ◌∷◌, ◌++◌, map}
use native.Mathlib.Omega.{arith}
use Rattle.order.specs.Bag.{same, count}
use Rattle.order.proofs.Cases.{same_self}
use Rattle.order.proofs.Total.{All, all_nil, all_cons, all_map, total, total_map, total_append, total_agree}
use Rattle.order.proofs.Bag.{Each, each, each_nil, each_cons, each_head, each_tail, each_fewer, each_append, count-append}
use Rattle.order.proofs.Sorted.{total_bag}
use Rattle.board.specs.Levels.{Box, groups}
use Rattle.board.specs.Kids.{Entry, whole_board, kids}
use Rattle.board.proofs.Under.{stands_small}
use Rattle.board.proofs.Valid.{Sound}
use Rattle.board.proofs.Bounds.{served_groups, served_height}
use Rattle.search.specs.Near.{Place}
use Rattle.search.specs.Keys.{key_of}
use Rattle.search.specs.Entries.{corner_at, corner_of, pack, pack_of, entry_in}
use Rattle.search.proofs.Search.{Step, opened, start, step, pending_good}
use Rattle.search.proofs.Growth.{grown}
use Rattle.search.proofs.Visit.{joints_in, Wanted, wanted_start, wanted_step}
use Rattle.search.proofs.Board.{OnBoard, whole_good, board, entry_grows, Search}
use Rattle.search.proofs.Entries.{entry_of_lem, corner_small}

-- from all of a list after a function to each number of it
pub all_each : {A : Type 0} {P : A → Type 0} (f : ℕ → A) (l : List ℕ) → All P (map f l) → Each (λ x. P (f x)) l
all_each f [] h = each_nil
all_each f (x ∷ xs) (all_cons h t) = each_cons h (all_each f xs t)

-- and back
pub each_all : {A : Type 0} {P : A → Type 0} (f : ℕ → A) (l : List ℕ) → Each (λ x. P (f x)) l → All P (map f l)
each_all f [] h = all_nil
each_all f (x ∷ xs) h = all_cons (each_head h) (each_all f xs (each_tail h))

-- numbers made of entries
pub all_numbers : {A : Type 0} {P : ℕ → Type 0} (f : A → ℕ) {l : List A} → All (λ a. P (f a)) l → Each P (map f l)
all_numbers f all_nil = each_nil
all_numbers f (all_cons h t) = each_cons h (all_numbers f t)

-- of the numbers of two bags in one
from_both : {P : ℕ → Type 0} {l m both : List ℕ} → Each P l → Each P m → ((y : ℕ) → count y both ≡ count y l + count y m) → Each P both
from_both {l = l} {m = m} a b e = each_fewer (each_append a b) (λ y. omega (arith, e y, count-append y l m))

-- what was packed is found again
pub pack_parts : (key corner : ℕ) → corner < 2 ^ 32 → (pack key corner / 2 ^ 32 ≡ key) × (pack key corner % 2 ^ 32 ≡ corner)
pack_parts key corner h = (omega arith, omega arith)

module _ (p : Place) (h : ℕ) (bytes : List ℕ) (few : groups h bytes ≤ 2 ^ 24) (low : h ≤ 12) where
  corner_fits_at : (k g : ℕ) (b : Box) → OnBoard h bytes (record { left = k; group = g; box = b }) → corner_at k b < 2 ^ 32
  unfolding corner_at
  corner_fits_at zero g b s = omega arith
  corner_fits_at (suc k) g b s =
      let small = stands_small bytes _ s.at b s.stands in
      omega (arith, corner_small h (suc k) b.row low s.low small.rows, corner_small h (suc k) b.col low s.low small.cols, s.low)

  -- a corner has room in 32 bits
  pub corner_fits : (e : Entry) → OnBoard h bytes e → corner_of e < 2 ^ 32
  corner_fits e s = corner_fits_at e.left e.group e.box s

  -- an entry of the board is found again in its number
  pub entry_in_lem : (e : Entry) → OnBoard h bytes e → entry_in (pack_of p e) ≡ e
  entry_in_lem e s =
      let parts = pack_parts (key_of p e) (corner_of e) (corner_fits e s) in
      rw (parts.0, parts.1) (entry_of_lem p h bytes few low e s)

-- a number is an entry's: it is the entry's key and corner
abbrev pub Entered : Place → ℕ → Type 0
Entered p x = x ≡ pack_of p (entry_in x)

module _ (p : Place) (h : ℕ) (bytes : List ℕ) {j g : ℕ} (served : Sound h bytes j g) (k : ℕ) where
  -- what left so far, and the pending entries as numbers
  pub record Underway (left pend : List ℕ) : Type 0 where
    pub search : Search p h bytes served left (map entry_in pend)
    pub wanted : Wanted k left
    pub entered : Each (Entered p) pend

  -- a number whose entry is on the board has its key in front
  key_in : (x : ℕ) → Entered p x → OnBoard h bytes (entry_in x) → x / 2 ^ 32 ≡ key_of p (entry_in x)
  key_in x e s = ap (λ (y : ℕ). y / 2 ^ 32) e ∙ (pack_parts (key_of p (entry_in x)) (corner_of (entry_in x)) (corner_fits p h bytes (served_groups h bytes j g served) (served_height h bytes j g served) (entry_in x) s)).0

  -- the pending numbers' entries are on the board
  pub on_board_lem : {left pend : List ℕ} → Underway left pend → Each (λ x. OnBoard h bytes (entry_in x)) pend
  on_board_lem {pend = pend} u = all_each entry_in pend (pending_good (grown (board p h bytes (served_groups h bytes j g served))) u.search)

  -- entries on the board as numbers
  pub numbers : (es : List Entry) → All (OnBoard h bytes) es → All (λ e. (Entered p (pack_of p e)) × OnBoard h bytes (entry_in (pack_of p e)) × (entry_in (pack_of p e) ≡ e)) es
  numbers es all =
      all_map (λ e s.
      let same = entry_in_lem p h bytes (served_groups h bytes j g served) (served_height h bytes j g served) e s in
      (rw same refl, rw same s, same)) all

  -- before the first step
  pub underway_start : Underway [] (pack_of p (whole_board h) ∷ [])
  underway_start =
      let same = entry_in_lem p h bytes (served_groups h bytes j g served) (served_height h bytes j g served) (whole_board h) (whole_good h bytes) in
      record { search = rw same (start (whole_good h bytes)); wanted = wanted_start k; entered = each_cons (rw same refl) each_nil }

  -- a pending entry with a smallest key leaves, and what lies in it comes
  pub underway_step : {left pend : List ℕ} (x : ℕ) (rest next : List ℕ) → Underway left pend → joints_in left < k
      → Each (λ y. x / 2 ^ 32 ≤ y / 2 ^ 32) pend
      → ((y : ℕ) → count y pend ≡ same y x + count y rest)
      → ((y : ℕ) → count y next ≡ count y (map (pack_of p) (kids bytes (entry_in x))) + count y rest)
      → Underway (left ++ x / 2 ^ 32 ∷ []) next
  unfolding count total
  underway_step {left} {pend} x rest next u some least out back =
      let few = served_groups h bytes j g served in
      let good = on_board_lem u in
      let here : 1 ≤ count x pend = omega (arith, out x, same_self x) in
      let mine : OnBoard h bytes (entry_in x) = good.of x here in
      let is_key : (y : ℕ) → 1 ≤ count y pend → y / 2 ^ 32 ≡ key_of p (entry_in y) = λ y c. key_in y (u.entered.of y c) (good.of y c) in
      let inside = kids bytes (entry_in x) in
      let told = numbers inside (all_map (λ e c. c.good) (entry_grows p h bytes few mine)) in
      let fewer : (y : ℕ) → count y rest ≤ count y pend = λ y. omega (arith, out y) in
      let is-good : All (OnBoard h bytes) (map entry_in next) =
      each_all entry_in next (from_both {m = rest} (all_numbers (pack_of p) (all_map (λ e t. t.1) told)) (each_fewer good fewer) back) in
      let made : Step (grown (board p h bytes few)) (map entry_in pend) (entry_in x) (map entry_in next) =
      opened (grown (board p h bytes few)) (map entry_in rest) mine
      (rw (← is_key x here) (all_numbers (key_of p) (each_all entry_in pend (each (λ y c. rw (← is_key y c) (least.of y c))))))
      (λ w. simp total_map (total_bag (λ y. w (entry_in y)) pend (x ∷ rest) out))
      (λ w. simp total_map (total_bag (λ y. w (entry_in y)) next (map (pack_of p) inside ++ rest) (λ y. back y ∙ sym (count-append y (map (pack_of p) inside) rest))
      ∙ total_append (λ y. w (entry_in y)) (map (pack_of p) inside) rest
      ∙ ap (λ (n : ℕ). n + total (λ y. w (entry_in y)) rest) (total_map (λ y. w (entry_in y)) (pack_of p) inside ∙ total_agree (all_map (λ e t. ap w t.2) told))))
      is-good in
      record {
        search = rw (is_key x here) (step u.search made);
        wanted = wanted_step k left (x / 2 ^ 32) u.wanted some;
        entered = from_both {m = rest} (all_numbers (pack_of p) (all_map (λ e t. t.0) told)) (each_fewer u.entered fewer) back;
      }

-- One quarter more of a box that is opened.
use Prim.Native.Nat.{ℕ, zero, suc, ◌+◌, ◌-◌, ◌*◌, ◌/◌, ◌%◌, ◌^◌, ◌≤◌, ◌<◌}
use mathlib.Core.Path.{◌≡◌, ap, ◌∙◌}
use mathlib.Core.List.{List, map, map-append}
use native.Mathlib.Omega.{arith}
use native.Mathlib.Nat.{pow-succ'}
use native.Mathlib.Numerals.{add-one}
use lib.ListN.{length, length-map}
use Rattle.bitmap.specs.Bits.{group_at, ones_before, bit_of}
use Rattle.bitmap.proofs.RankByGroup.{ones_to}
use Rattle.board.specs.Levels.{Box, quarters}
use Rattle.board.specs.Under.{quarter, first_child, if_one, along}
use Rattle.board.specs.Kids.{entry, kids_at}
use Rattle.search.specs.Near.{Place}
use Rattle.search.specs.Entries.{pack_of}
use Rattle.search.proofs.Quarters.{kids_to, kids_to_none, kids_to_suc, kids_to_all, length_kids_to, quarter_row}
use Rattle.keys.specs.Places.{Fits, Corner}
use Rattle.seek.specs.Pending.{Added}
use Rattle.seek.specs.Opening.{Opened}
use Rattle.seek.proofs.Lists.{added_none, added_more}

-- once or not at all
at_most_once : (n m : ℕ) → n < 2 → n * m ≤ m
at_most_once zero m h = omega arith
at_most_once (suc zero) m h = omega arith
at_most_once (suc (suc n)) m h = absurd (omega arith)

-- of a box with levels, one more than its quarters have
one_more : {level : ℕ} → 1 ≤ level → suc (level - 1) ≡ level
one_more some = omega arith

module _ {level row col q top left half : ℕ} (some : 1 ≤ level) (h : q < 4) (side : half ≡ 2 ^ (level - 1)) (t : top ≡ row + q / 2 * half) (l : left ≡ col + q % 2 * half) where
  -- a quarter fits where its box does
  pub quarter_fits : Fits level row col → Fits (level - 1) top left
  quarter_fits f =
      let two : 2 ^ level ≡ 2 * 2 ^ (level - 1) = rw (one_more some) at (pow-succ' 2 (level - 1)) in
      record { low = omega (arith, f.low); rows = omega (arith, f.rows, at_most_once (q / 2) half (omega arith)); columns = omega (arith, f.columns, at_most_once (q % 2) half (omega arith)) }

  -- its corner
  pub quarter_corner : (b : Box) → Corner level row col b → Corner (level - 1) top left (quarter q b)
  unfolding quarter
  quarter_corner b at =
      record {
        rows = t ∙ ap (λ (n : ℕ). row + q / 2 * n) side ∙ quarter_row (level - 1) b.row row (q / 2) (rw (one_more some) at.rows);
        columns = l ∙ ap (λ (n : ℕ). col + q % 2 * n) side ∙ quarter_row (level - 1) b.col col (q % 2) (rw (one_more some) at.columns);
      }

module _ (p : Place) (level first bits : ℕ) (b : Box) (n : ℕ) (ks cs : List ℕ) where
  -- before the first quarter
  pub quarters_none : Added n (map (pack_of p) (kids_to level first bits b 0)) ks cs ks cs
  quarters_none = rw (kids_to_none level first bits b) (added_none n ks cs)

  -- one quarter more
  pub quarters_more : (m q next : ℕ) {ks' cs' ks'' cs'' : List ℕ} → m ≡ n + ones_to bits q → next ≡ first + ones_to bits q
      → Added n (map (pack_of p) (kids_to level first bits b q)) ks cs ks' cs'
      → Added m (map (pack_of p) (if_one (bit_of bits q) (entry level next (quarter q b)))) ks' cs' ks'' cs''
      → Added n (map (pack_of p) (kids_to level first bits b (q + 1))) ks cs ks'' cs''
  quarters_more m q next e f s t =
      let so_far : m ≡ n + length (map (pack_of p) (kids_to level first bits b q)) = omega (arith, length-map (kids_to level first bits b q) (pack_of p), length_kids_to level first bits b q) in
      rw (add-one q, kids_to_suc level first bits b q next f, map-append) (added_more s (rw so_far at t))

  -- all four
  pub quarters_all : {m : ℕ} {ks' cs' : List ℕ} → m ≡ n + ones_to bits 4 → Added n (map (pack_of p) (kids_to level first bits b 4)) ks cs ks' cs' → Opened p (along (entry level) first (quarters bits b)) n ks cs m ks' cs'
  quarters_all e s =
      rw (← kids_to_all level first bits b) (record { counted = omega (arith, length_kids_to level first bits b 4); added = s })

-- what a group of the bitmap opens to, by its bits and its first child
pub kids_by_bits : (bytes : List ℕ) (level g bits first : ℕ) (b : Box) → 1 ≤ level → bits ≡ group_at bytes g → first ≡ ones_before bytes (4 * g) + 1
    → along (entry (level - 1)) first (quarters bits b) ≡ kids_at bytes level g b
unfolding kids_at first_child
kids_by_bits bytes zero g bits first b some e f = absurd (omega arith)
kids_by_bits bytes (suc level) g bits first b some e f =
    let one : suc level - 1 ≡ level = omega arith in
    rw (one, e, f, add-one (ones_before bytes (4 * g)))

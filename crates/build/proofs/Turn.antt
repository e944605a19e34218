-- The loop that writes a level, over the work list: whatever groups were written before, the level stands behind them.
use Prim.Native.Nat.{ℕ, zero, suc, ◌+◌, ◌-◌, ◌/◌, ◌^◌, ◌≤◌, ◌<◌}
use mathlib.Core.Path.{◌≡◌, refl, ap, ◌∙◌}
use mathlib.Core.Logic.{◌⊎◌, inl, inr}
use mathlib.Core.List.{List, [], ◌∷◌, ◌++◌}
use native.Mathlib.Omega.{arith}
use native.Mathlib.Numerals.{add-one}
use lib.ListN.{length, get_or, take, drop}
use lib.Seq.{take-suc, take_all, length-take-le}
use Rattle.std.proofs.lemmas.List.{length-drop}
use Rattle.std.proofs.lemmas.Grind.{get_or_after_one}
use Rattle.order.proofs.Sets.{In, Rising, in_cons, not_in_nil, in_tail, has_here}
use Rattle.build.specs.Writing.{put_group, in_byte, level_of, worth, Written}
use Rattle.build.proofs.Fit.{put-length}
use Rattle.build.proofs.Amid.{Amid, amid_start, amid_bits, amid_number, amid_byte, amid_end, amid_same, amid_quarter, amid_box}

-- the first i codes are seen
pub record Turn (first : ℕ) (bitmap₀ codes : List ℕ) (s i g child bits : ℕ) (bitmap : List ℕ) : Type 0 where
  pub low : 1 ≤ i
  pub high : i ≤ length codes
  pub as_long : length bitmap ≡ length bitmap₀
  pub amid : (gs : List ℕ) → Written gs first bitmap₀ → Amid gs s (take i codes) g child bits bitmap

-- what is in the beginning of a list is in the list
in_take : (k : ℕ) (l : List ℕ) (z : ℕ) → In z (take k l) → In z l
in_take zero l z h = absurd (not_in_nil z h)
in_take (suc k) [] z h = h
in_take (suc k) (x ∷ l) z h = go (in_take k l z) (in_cons z x (take k l) h)
  where
    go : (In z (take k l) → In z l) → (z ≡ x) ⊎ In z (take k l) → In z (x ∷ l)
    go f (inl e) = rw e (has_here x l)
    go f (inr m) = in_tail z x l (f m)

-- the beginning of a rising list rises
rising_take : (k : ℕ) (l : List ℕ) → Rising l → Rising (take k l)
rising_take zero l r = tt
rising_take (suc k) [] r = tt
rising_take (suc k) (x ∷ l) r = ((λ z h. r.0 z (in_take k l z h)), rising_take k l r.1)

-- the codes behind the first, as a list
behind_all : (codes : List ℕ) → take (length codes - 1) (drop 1 codes) ≡ drop 1 codes
behind_all codes = take_all (length codes - 1) (drop 1 codes) (omega (arith, length-drop 1 codes))

-- one by one
pub behind : (codes : List ℕ) (i : ℕ) → get_or (take (length codes - 1) (drop 1 codes)) i 0 ≡ get_or codes (i + 1) 0
behind codes i = let next : 1 + i ≡ i + 1 = omega arith in ap (λ (l : List ℕ). get_or l i 0) (behind_all codes) ∙ rw (get_or_after_one codes i 0, next)

-- and how many
pub behind_long : (codes : List ℕ) → length (take (length codes - 1) (drop 1 codes)) ≡ length codes - 1
behind_long codes = ap length (behind_all codes) ∙ length-drop 1 codes

-- the first code
pub turn_start : (first : ℕ) (bitmap₀ codes : List ℕ) (s : ℕ) → 1 ≤ length codes → Turn first bitmap₀ codes s 1 first (get_or codes 0 0 / 4 ^ s) (worth (get_or codes 0 0 / 4 ^ s)) bitmap₀
turn_start first bitmap₀ codes s low = record {
  low = omega arith;
  high = low;
  as_long = refl;
  amid = λ gs w. rw (take-suc codes 0 0 (omega arith)) (amid_start gs s (get_or codes 0 0) first bitmap₀ w);
}

module _ {first : ℕ} {bitmap₀ codes : List ℕ} {s i g child bits : ℕ} {bitmap : List ℕ} (t : Turn first bitmap₀ codes s i g child bits bitmap) where
  module _ (w : (gs : List ℕ) × Written gs first bitmap₀) where
    -- the group in hand is four bits, and its number is near the first
    pub turn_bits : (bits < 16) × (g < first + i)
    turn_bits =
        let a = t.amid w.0 w.1 in
        (amid_bits a, omega (arith, a.put.next, w.1.next, amid_number a, length-take-le i codes t.high))

    -- it can be put
    pub turn_byte : g / 2 < length bitmap → get_or bitmap (g / 2) 0 + in_byte g bits < 256
    turn_byte room = amid_byte (t.amid w.0 w.1) room

  module _ (r : Rising codes) (more : i < length codes) where
    -- one code more is seen
    next_seen : take (i + 1) codes ≡ take i codes ++ get_or codes i 0 ∷ []
    next_seen = rw add-one (take-suc codes i 0 more)

    -- the codes seen and the next one rise
    rising_seen : Rising (take i codes ++ get_or codes i 0 ∷ [])
    rising_seen = rw next_seen at (rising_take (i + 1) codes r)

    -- the same quarter
    pub turn_same : get_or codes i 0 / 4 ^ s ≡ child → Turn first bitmap₀ codes s (i + 1) g (get_or codes i 0 / 4 ^ s) bits bitmap
    turn_same e = rw e (record {
      low = omega arith;
      high = omega arith;
      as_long = t.as_long;
      amid = λ gs w. rw next_seen (amid_same (t.amid gs w) (get_or codes i 0) rising_seen e);
    })

    -- another quarter of the box
    pub turn_quarter : (get_or codes i 0 / 4 ^ s ≡ child → ⊥) → get_or codes i 0 / 4 ^ s / 4 ≡ child / 4
        → Turn first bitmap₀ codes s (i + 1) g (get_or codes i 0 / 4 ^ s) (bits + worth (get_or codes i 0 / 4 ^ s)) bitmap
    turn_quarter d e = record {
      low = omega arith;
      high = omega arith;
      as_long = t.as_long;
      amid = λ gs w. rw next_seen (amid_quarter (t.amid gs w) (get_or codes i 0) rising_seen d e);
    }

    -- another box
    pub turn_box : (get_or codes i 0 / 4 ^ s / 4 ≡ child / 4 → ⊥) → Turn first bitmap₀ codes s (i + 1) (g + 1) (get_or codes i 0 / 4 ^ s) (worth (get_or codes i 0 / 4 ^ s)) (put_group bitmap g bits)
    turn_box d = record {
      low = omega arith;
      high = omega arith;
      as_long = put-length bitmap g bits ∙ t.as_long;
      amid = λ gs w. rw next_seen (amid_box (t.amid gs w) (get_or codes i 0) rising_seen d);
    }

  -- all are seen
  pub turn_end : length codes ≤ i → (gs : List ℕ) → Written gs first bitmap₀ → Written (gs ++ level_of s codes) (g + 1) (put_group bitmap g bits)
  turn_end le gs w = rw (take_all i codes le) at (amid_end (t.amid gs w))

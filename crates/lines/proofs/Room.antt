-- How long lines are at most, for numbers of 32 bits: ten digits each.
use Prim.Native.Nat.{ℕ, zero, suc, ◌+◌, ◌*◌, ◌^◌, ◌≤◌, ◌<◌}
use mathlib.Core.List.{List, [], ◌∷◌, map, flat_map}
use native.Mathlib.Omega.{arith}
use lib.ListN.{length, length-append, get_or, take}
use Rattle.text.specs.Text.{Line, field, bytes_of, text_of}
use Rattle.search.specs.Keys.{row_of, col_of, distance_of}
use Rattle.lines.specs.Report.{key_line}
use Rattle.text.specs.Lines.{in_line, in_lines}
use Rattle.text.proofs.Digits.{length_decimal}

-- every number of a list has 32 bits
abbrev pub Words : List ℕ → Type 0
Words l = (i : ℕ) → get_or l i 0 < 2 ^ 32

-- a list of one, of two, of three
pub one_word : (a : ℕ) → a < 2 ^ 32 → Words (a ∷ [])
one_word a h zero = h
one_word a h (suc i) = omega arith

pub two_words : (a b : ℕ) → a < 2 ^ 32 → b < 2 ^ 32 → Words (a ∷ b ∷ [])
two_words a b h k zero = h
two_words a b h k (suc i) = one_word b k i

pub three_words : (a b c : ℕ) → a < 2 ^ 32 → b < 2 ^ 32 → c < 2 ^ 32 → Words (a ∷ b ∷ c ∷ [])
three_words a b c h k l zero = h
three_words a b c h k l (suc i) = two_words b c k l i

-- the beginning of a list
pub words_take : (n : ℕ) (l : List ℕ) → Words l → Words (take n l)
words_take zero l h i = omega arith
words_take (suc n) [] h i = omega arith
words_take (suc n) (x ∷ l) h zero = h 0
words_take (suc n) (x ∷ l) h (suc i) = words_take n l (λ j. h (suc j)) i

-- a number after a space
pub field_short : (n : ℕ) → n < 2 ^ 32 → length (field n) ≤ 11
unfolding field
field_short n h = omega (arith, length_decimal 9 n (omega arith))

-- numbers, each after a space
pub fields_short : (l : List ℕ) → Words l → length (flat_map field l) ≤ 11 * length l
unfolding flat_map
fields_short [] h = omega arith
fields_short (n ∷ l) h = rw length-append (omega (arith, field_short n (h 0), fields_short l (λ i. h (suc i))))

-- a line
pub line_short : (line : Line) → Words line.numbers → length (bytes_of line) ≤ length line.word + 11 * length line.numbers + 1
unfolding bytes_of
line_short line h = rw (length-append, length-append) (omega (arith, fields_short line.numbers h))

-- the joints inside a window
pub ins_short : (rows columns : List ℕ) → Words rows → Words columns → length (text_of (in_lines rows columns)) ≤ 25 * length rows
unfolding text_of in_lines flat_map
ins_short [] columns h k = omega arith
ins_short (r ∷ rows) [] h k = omega arith
ins_short (r ∷ rows) (c ∷ columns) h k =
    rw length-append (omega (arith, line_short (in_line r c) (two_words r c (h 0) (k 0)), ins_short rows columns (λ i. h (suc i)) (λ i. k (suc i))))

-- the joints found
pub keys_short : (l : List ℕ) → ((i : ℕ) → i < length l → distance_of (get_or l i 0) < 2 ^ 32) → length (text_of (map key_line l)) ≤ 36 * length l
unfolding text_of flat_map
keys_short [] h = omega arith
keys_short (x ∷ l) h =
    let line = line_short (key_line x) (three_words (row_of x) (col_of x) (distance_of x) (omega arith) (omega arith) (h 0 (omega arith))) in
    rw length-append (omega (arith, line, keys_short l (λ i j. h (suc i) (omega arith))))

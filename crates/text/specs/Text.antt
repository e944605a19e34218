-- The lines of a report as bytes: words, decimal numbers, single spaces, a line feed after each line.
use Rattle.std.specs.Prelude.{ℕ, zero, suc, ◌+◌, ◌/◌, ◌%◌, ◌≤◌, cond, ◌≡◌, ltb, length}
use Prim.Native.Char.{code}
use Prim.Native.String.{String, len, char_at}
use mathlib.Core.List.{List, [], ◌∷◌, ◌++◌, flat_map}
use Rattle.std.proofs.lemmas.List.Edits.{sets}
use Rattle.measure.specs.Measure.{nought}

-- the bytes space and line feed
abbrev pub space : ℕ
space = 0x20

abbrev pub line_feed : ℕ
line_feed = 0x0a

-- n in decimal, if k digits are enough, with no leading zero
unfoldable pub digits : ℕ → ℕ → List ℕ
digits zero n = []
digits (suc k) n = cond (ltb n 10) ((nought + n) ∷ []) (digits k (n / 10) ++ (nought + n % 10) ∷ [])

-- n in decimal: n + 1 digits are always enough (theorem `decimal_says`: its digits say n)
unfoldable pub in_decimal : ℕ → List ℕ
in_decimal n = digits (suc n) n

-- a number after a space
unfoldable pub field : ℕ → List ℕ
field n = space ∷ in_decimal n

-- the bytes of a word: n letters from place i on, and all
abbrev pub letters_from : ℕ → ℕ → String → List ℕ
letters_from zero i word = []
letters_from (suc n) i word = code (char_at word i) ∷ letters_from n (suc i) word

abbrev pub letters : String → List ℕ
letters word = letters_from (len word) 0 word

-- a line: a word, then numbers
pub record Line : Type 0 where
  pub word : List ℕ
  pub numbers : List ℕ

unfoldable pub bytes_of : Line → List ℕ
bytes_of line = line.word ++ flat_map field line.numbers ++ line_feed ∷ []

-- lines, one after the other
unfoldable pub text_of : List Line → List ℕ
text_of lines = flat_map bytes_of lines

-- a text has room in a list from a place on
abbrev pub Fits : List ℕ → ℕ → List ℕ → Type 0
Fits text at out = at + length text ≤ length out

-- a text is put into a list from a place on, where it has room; all else is as it was, and this is the place behind it
pub record Put (text : List ℕ) (at : ℕ) (was : List ℕ) (behind : ℕ) (is : List ℕ) : Type 0 where
  pub place : behind ≡ at + length text
  pub fits : behind ≤ length was
  pub bytes : is ≡ sets was at text

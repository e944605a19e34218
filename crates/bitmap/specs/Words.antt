-- Bytes of a bitmap as one number, for what is counted or tested many bits at a time.
use Rattle.std.specs.Prelude.{ℕ, zero, suc, ◌+◌, ◌*◌, ◌<◌, List, get_or}

-- n bytes from byte i on as one number, the first the lowest
unfoldable pub word_at : List ℕ → ℕ → ℕ → ℕ
word_at bytes i zero = 0
word_at bytes i (suc n) = get_or bytes i 0 + 256 * word_at bytes (suc i) n

-- numbers that are bytes
abbrev pub Bytes : List ℕ → Type 0
Bytes bytes = (i : ℕ) → get_or bytes i 0 < 256

-- The sentences of the table "Numbers of refusal" of document 01 that speak of a board, its directory and a cell. proofs/Exactly.antt and
-- ExactlyAsked.antt have each number given exactly when they say.
use Rattle.std.specs.Prelude.{ℕ, ◌+◌, ◌*◌, ◌/◌, ◌^◌, ◌≤◌, ◌<◌, ◌≡◌, List, length, get_or}
use Rattle.refusal.specs.Answer.{Answer, Served}
use Rattle.bitmap.specs.Bits.{bit_at, group_at}
use Rattle.bitmap.specs.Directory.{blocks, directory_of}
use Rattle.board.specs.Limits.{max_height}
use Rattle.board.specs.Levels.{groups}

-- 1: the height is 1 to 10
abbrev pub HeightServed : ℕ → Type 0
HeightServed h = (1 ≤ h) × (h ≤ max_height)

-- 2: the bytes end before group g is complete
abbrev pub EndBefore : List ℕ → ℕ → Type 0
EndBefore bytes g = 8 * length bytes < 4 * g + 4

-- 3: group g, other than group 0, is all zero
abbrev pub AllZero : List ℕ → ℕ → Type 0
AllZero bytes g = (1 ≤ g) × (group_at bytes g ≡ 0)

-- no group before group g has either fault
abbrev pub SoundBefore : List ℕ → ℕ → Type 0
SoundBefore bytes g = (i : ℕ) → i < g → (EndBefore bytes i → ⊥) × (AllZero bytes i → ⊥)

-- in bit order, group g is the first that may have a fault: it must be there, and all before it are sound
abbrev pub FirstAt : ℕ → List ℕ → ℕ → Type 0
FirstAt h bytes g = (g < groups h bytes) × SoundBefore bytes g

-- 4: bytes left over
abbrev pub BytesOver : ℕ → List ℕ → Type 0
BytesOver h bytes = (groups h bytes + 1) / 2 < length bytes

-- 4: an unused bit is one
abbrev pub UnusedOne : ℕ → List ℕ → Type 0
UnusedOne h bytes = (p : ℕ) × (4 * groups h bytes ≤ p) × (p < 8 * length bytes) × (bit_at bytes p ≡ 1)

-- 6: a directory of wrong length
abbrev pub WrongLength : ℕ → List ℕ → Type 0
WrongLength n bytes = n ≡ blocks (length bytes) → ⊥

-- 6: a wrong entry
abbrev pub WrongEntry : List ℕ → List ℕ → Type 0
WrongEntry directory bytes = (k : ℕ) × (k < blocks (length bytes)) × (get_or directory k 0 ≡ get_or (directory_of bytes) k 0 → ⊥)

-- 12: the cell is on the board
abbrev pub CellOn : ℕ → ℕ → ℕ → Type 0
CellOn h r c = (r < 2 ^ h) × (c < 2 ^ h)

-- nothing before refuses: this is served
abbrev pub Serves : {A : Type 0} → Answer A → Type 0
Serves {A} a = (x : A) × (a ≡ Served x)

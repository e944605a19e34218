-- Places and corners as the code holds them.
use Rattle.std.specs.Prelude.{ℕ, ◌+◌, ◌*◌, ◌^◌, ◌≤◌, Bool, ◌&&◌, ◌≡◌, leb, nat_abs}
use Rattle.board.specs.Limits.{max_height, max_place, max_side}
use Rattle.board.specs.Levels.{Box}
use Rattle.board.specs.Kids.{entry_at}
use Rattle.search.specs.Near as near
use Rattle.search.specs.Keys.{key_of}
use Rattle.search.specs.Entries.{corner_of}
use Rattle.keys.specs.declared.distance.Place.{Place}

-- the place of a question
abbrev pub place_of : Place → near.Place
place_of p = record { row = p.row; col = p.column }

-- whether a question may name it
abbrev pub in_range : Place → Bool
in_range p = leb (nat_abs p.row) max_place && leb (nat_abs p.column) max_place

-- a question may name it
pub record Named (p : Place) : Type 0 where
  pub row : nat_abs p.row ≤ max_place
  pub column : nat_abs p.column ≤ max_place

-- a box with so many levels, whose corner is given, fits a board
pub record Fits (level row column : ℕ) : Type 0 where
  pub low : level ≤ max_height
  pub rows : row + 2 ^ level ≤ max_side
  pub columns : column + 2 ^ level ≤ max_side

-- the corner of a box with so many levels
pub record Corner (level row column : ℕ) (b : Box) : Type 0 where
  pub rows : row ≡ b.row * 2 ^ level
  pub columns : column ≡ b.col * 2 ^ level

-- an entry as code has it: its key and its corner
pub record Packs (p : near.Place) (level g : ℕ) (b : Box) (x c : ℕ) : Type 0 where
  pub key : x ≡ key_of p (entry_at level g b)
  pub corner : c ≡ corner_of (entry_at level g b)

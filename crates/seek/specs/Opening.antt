-- A box is opened.
use Rattle.std.specs.Prelude.{ℕ, ◌+◌, ◌*◌, ◌≤◌, ◌<◌, ◌≡◌, List, map, length}
use Rattle.bitmap.specs.Bits.{ones_of}
use Rattle.board.specs.Kids.{Entry}
use Rattle.search.specs.Near.{Place}
use Rattle.search.specs.Entries.{entry_of, pack_of}
use Rattle.search.proofs.Boxes.{BoxIs}
use Rattle.seek.specs.declared.spot.Spot.{Spot}
use Rattle.seek.specs.Pending.{Added}

-- a box has levels under it, and its group is in the bitmap
pub record MayOpen (bytes : List ℕ) (s : Spot) : Type 0 where
  pub there : s.group.0 < 2 * length bytes
  pub some : 1 ≤ s.level

-- both work lists have room for as many entries as there are ones, beside n
pub record OnesFit (bits n keys corners : ℕ) : Type 0 where
  pub keys_room : n + ones_of bits ≤ keys
  pub corners_room : n + ones_of bits ≤ corners

-- beside n entries these became pending
pub record Opened (p : Place) (es : List Entry) (n : ℕ) (keys corners : List ℕ) (r : ℕ) (keys' corners' : List ℕ) : Type 0 where
  pub counted : r ≡ n + length es
  pub added : Added n (map (pack_of p) es) keys corners keys' corners'

-- the entry of key x and corner c is a box that may be opened: what its corner says is its own
pub record BoxMayOpen (bytes : List ℕ) (x c : ℕ) : Type 0 where
  pub level : ℕ
  pub is : BoxIs bytes x c (entry_of x c) level

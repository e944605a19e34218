-- A step of a question.
use Rattle.std.specs.Prelude.{ℕ, zero, suc, ◌+◌, ◌-◌, ◌≤◌, ◌<◌, ◌^◌, max, ◌≡◌, List, [], ◌∷◌, ◌++◌, map, length, get_or}
use Rattle.order.specs.Order.{keep}
use Rattle.order.specs.Bag.{same, count}
use Rattle.order.proofs.Total.{adds}
use Rattle.board.specs.Ready as board
use Rattle.board.specs.Kids.{kids}
use Rattle.board.proofs.Valid.{Sound}
use Rattle.search.specs.Near.{Place}
use Rattle.search.specs.Keys.{is_box, is_joint, id_of}
use Rattle.search.specs.Entries.{entry_of, pack, pack_of}
use Rattle.search.proofs.Visit.{joints_in}
use Rattle.search.proofs.Underway.{Underway}
use Rattle.seek.specs.declared.step.Tally.{Tally}
use Rattle.seek.specs.Pending.{pending_in, Heaped}

-- the keys of the joints handed out stand at the end of the keys, the first in the last place
unfoldable pub handed_in : ℕ → List ℕ → List ℕ
handed_in zero keys = []
handed_in (suc m) keys = handed_in m keys ++ get_or keys (length keys - suc m) 0 ∷ []

-- a search of a board for joints is under way: what left so far, what is pending, in heap order, and how it is tallied
pub record Searching (p : Place) (bytes directory : List ℕ) (t : Tally) (keys corners : List ℕ) : Type 0 where
  pub height : ℕ
  pub joints : ℕ
  pub groups : ℕ
  pub wanted : ℕ
  pub left : List ℕ
  pub sound : Sound height bytes joints groups
  pub ready : board.Ready height bytes directory
  pub underway : Underway p height bytes sound wanted left (pending_in t.pending keys corners)
  pub handed_out : joints_in left ≡ t.handed
  pub counted : length left ≡ t.opened + t.handed
  pub in_keys : t.pending ≤ length keys
  pub in_corners : t.pending ≤ length corners
  pub keys_room : max 1 joints ≤ length keys
  pub corners_room : max 1 joints ≤ length corners
  pub heaped : Heaped t.pending keys

-- a step is to be taken: fewer joints than wanted are handed out, and something is pending
pub record Goes (p : Place) (bytes directory : List ℕ) (t : Tally) (keys corners : List ℕ) : Type 0 where
  pub searching : Searching p bytes directory t keys corners
  pub fewer : t.handed < searching.wanted
  pub some : 0 < t.pending

-- the smallest pending entry leaves; its group joins the trail and exactly its ones become pending, or its joint joins the answer
pub record Stepped (p : Place) (bytes : List ℕ) (t : Tally) (keys corners trail : List ℕ) (t' : Tally) (keys' corners' trail' : List ℕ) : Type 0 where
  pub key : ℕ
  pub corner : ℕ
  pub corner_fits : corner < 2 ^ 32
  pub smallest : (i : ℕ) → i < t.pending → key ≤ get_or keys i 0
  pub rest : List ℕ
  pub leaves : (x : ℕ) → count x (pending_in t.pending keys corners) ≡ same x (pack key corner) + count x rest
  pub comes : (x : ℕ) → count x (pending_in t'.pending keys' corners') ≡ count x (map (pack_of p) (kids bytes (entry_of key corner))) + count x rest
  pub pending_is : t'.pending ≡ length (kids bytes (entry_of key corner)) + (t.pending - 1)
  pub trail_is : trail' ≡ adds trail t.opened (map id_of (keep is_box (key ∷ [])))
  pub opened_is : t'.opened ≡ t.opened + length (keep is_box (key ∷ []))
  pub handed_are : handed_in t'.handed keys' ≡ handed_in t.handed keys ++ keep is_joint (key ∷ [])
  pub handed_is : t'.handed ≡ t.handed + length (keep is_joint (key ∷ []))
  pub keys_long : length keys' ≡ length keys
  pub corners_long : length corners' ≡ length corners
  pub heaped : Heaped t'.pending keys'

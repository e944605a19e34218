-- What is said of a question beside its promise: no cell is too far off, and entries come in the order of their keys.
use Prim.Native.Nat.{ℕ, ◌*◌, ◌≤◌, ◌<◌}
use mathlib.Core.Logic.{◌↔◌}
use mathlib.Core.Path.{◌≡◌}
use lib.IntN.{nat_abs}
use Rattle.board.specs.Limits.{max_place, max_side}
use Rattle.board.specs.Levels.{Box}
use Rattle.board.proofs.Under.{Within}
use Rattle.search.specs.Near.{Place, near}
use Rattle.search.specs.Keys.{key}
use Rattle.search.specs.Plain.{distance}
use Rattle.search.proofs.Keys.{Fits, Earlier, earlier_less, less_earlier, same_key}
use Rattle.search.proofs.Near.{near_quarter}
use Rattle.search.proofs.Distances.{max_distance, near_most}
use Rattle.search.proofs.PlainDistances.{distance_plain}

-- a quarter is not nearer than its box
pub quarter_no_nearer : (p : Place) (s : ℕ) {q b : Box} → Within 2 q b → near p (2 * s) b ≤ near p s q
quarter_no_nearer p s w = near_quarter p s w

-- the squared distance from a place that a question may name to a cell of a board is at most 18,264,968
pub distance_most : (p : Place) → nat_abs p.row ≤ max_place → nat_abs p.col ≤ max_place → (r c : ℕ) → r < max_side → c < max_side → distance p r c ≤ max_distance
distance_most p row col r c low left = rw (distance_plain p (record { row = r; col = c })) at (near_most p row col (record { row = r; col = c }) low left)

-- the order of entries, by distance, a box before a joint, then group number, or row and column, is the order of their keys
pub keys_in_order : (d d' : ℕ) {k i k' i' : ℕ} → Fits k i → Fits k' i' → Earlier d k i d' k' i' ↔ (key d k i < key d' k' i')
keys_in_order d d' f f' = (earlier_less d d' f f', less_earlier d d' f f')

-- and two entries never tie
pub keys_never_tie : (d d' : ℕ) {k i k' i' : ℕ} → Fits k i → Fits k' i' → key d k i ≡ key d' k' i' → (d ≡ d') × (k ≡ k') × (i ≡ i')
keys_never_tie d d' f f' e = same_key d d' f f' e

-- `board::member::is_stored` meets its contract. The invariant: the group is that of the box, of the level reached, that holds the cell. Assumes nothing.
use Prim.Native.Nat.{◌-◌, ◌≤◌}
use Rattle.board.specs.Under.{Stands}
use Rattle.board.proofs.WayDown.{holder}
use Rattle.board.proofs.member.is_stored.Given as goal

abbrev pub invariant-loop-left : goal.invariant-loop-left
invariant-loop-left l = (l.left ≤ l.board.height) × Stands l.board.bytes.now (l.board.height - l.left) l.group.0 (holder l.left l.row l.column)

abbrev pub decreases-loop-left : goal.decreases-loop-left
decreases-loop-left l = l.left

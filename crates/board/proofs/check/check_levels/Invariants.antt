-- `board::check::check_levels` meets its contract. Outer invariant: the group and the boxes are those of the layout where the level begins; inner: so
-- many ones in the level's groups so far; both: no fault so far. After the loops the fault is that of the group that broke off, or none. Assumes nothing.
use Prim.Native.Nat.{◌-◌, ◌≤◌}
use mathlib.Core.Path.{◌≡◌}
use Rattle.std.specs.Prelude.{Ok}
use Rattle.board.proofs.Reading.{AtLevel, AtGroup}
use Rattle.board.proofs.check.check_levels.Given as goal

abbrev pub invariant-loop-n : goal.invariant-loop-n
invariant-loop-n l = (l.fault ≡ Ok tt) × AtGroup l.bytes l._level l.ones l.n l.group.0

abbrev pub decreases-loop-n : goal.decreases-loop-n
decreases-loop-n l = l.boxes - l.n

abbrev pub invariant-levels : goal.invariant-levels
invariant-levels l = (l.fault ≡ Ok tt) × (l._level ≤ l.height) × AtLevel l.bytes l._level l.group.0 l.boxes

abbrev pub decreases-levels : goal.decreases-levels
decreases-levels l = l.height - l._level

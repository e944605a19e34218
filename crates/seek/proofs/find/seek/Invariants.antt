-- `seek::find::seek` meets its contract. Assumes nothing.
use Prim.Native.Nat.{◌+◌, ◌-◌, ◌^◌}
use lib.ListN.{length}
use Rattle.keys.specs.Places.{place_of}
use Rattle.seek.specs.Works.{SameLists}
use Rattle.seek.specs.Search.{Begins}
use Rattle.seek.proofs.Going.{Known}
use Rattle.seek.proofs.find.seek.Given as goal

abbrev pub invariant-loop-t : goal.invariant-loop-t
invariant-loop-t l =
    record {
      same_lists : SameLists l.initial.work l.work;
      known : (b : Begins (place_of l.q.place) l.q.board.bytes.now l.q.board.directory.now l.q.wanted l.initial.t l.initial.work.keys.now l.initial.work.corners.now l.initial.trail) → Known (place_of l.q.place) b.height l.q.board.bytes.now l.q.board.directory.now l.q.wanted (length l.initial.trail) (length l.initial.work.keys.now) (length l.initial.work.corners.now) l.t l.work.keys.now l.work.corners.now l.trail;
    }

abbrev pub decreases-loop-t : goal.decreases-loop-t
decreases-loop-t l = 2 ^ 16 - (l.t.opened + l.t.handed)

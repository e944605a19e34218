-- `seek::work::Work::add_ones` meets its contract. Assumes nothing.
use Prim.Native.Nat.{◌+◌, ◌-◌}
use mathlib.Core.Path.{◌≡◌}
use mathlib.Core.List.{map}
use Rattle.bitmap.proofs.RankByGroup.{ones_to}
use Rattle.search.specs.Entries.{pack_of}
use Rattle.search.proofs.Quarters.{kids_to}
use Rattle.keys.specs.Places.{place_of}
use Rattle.seek.specs.Spots.{box_of}
use Rattle.seek.specs.Works.{SameLists}
use Rattle.seek.specs.Pending.{Added}
use Rattle.seek.proofs.work.Work.add_ones.Given as goal

abbrev pub invariant-loop-quarter : goal.invariant-loop-quarter
invariant-loop-quarter l =
    record {
      groups : l.next.0 ≡ l.initial.next.0 + ones_to l.bits l.quarter;
      counted : l.n ≡ l.initial.n + ones_to l.bits l.quarter;
      added : Added l.initial.n (map (pack_of (place_of l.q.place)) (kids_to (l.s.level - 1) l.initial.next.0 l.bits (box_of l.s) l.quarter)) l.initial.self.keys.now l.initial.self.corners.now l.self.keys.now l.self.corners.now;
      same_lists : SameLists l.initial.self l.self;
    }

-- `seek::work::Work::add_ones` meets its contract. Assumes nothing.
use Prim.Native.Nat.{◌-◌}
use mathlib.Core.Path.{◌≡◌}
use native.Mathlib.Omega.{arith}
use native.Mathlib.Numerals.{add-one}
use Rattle.bitmap.proofs.Ones.{bit_small}
use Rattle.bitmap.proofs.RankByGroup.{ones_to}
use Rattle.search.proofs.Quarters.{ones_so_far, ones_to_suc, ones_few}
use Rattle.keys.specs.Places.{place_of}
use Rattle.seek.specs.Spots.{box_of}
use Rattle.seek.proofs.Works.{same_none, same_more}
use Rattle.seek.proofs.Quarter.{quarters_none, quarters_more, quarters_all}
use Rattle.seek.proofs.work.Work.add_ones.Goals as goal

pub loop-quarter-init : goal.loop-quarter-init
unfolding ones_to
loop-quarter-init c = let a = c.args in
    record { groups = omega arith; counted = omega arith; added = quarters_none (place_of a.q.place) (a.s.level - 1) a.first.0 a.bits (box_of a.s) a.pending a.self.now.keys.now a.self.now.corners.now; same_lists = same_none }

pub add_where_one-n-requires : goal.add_where_one-n-requires
add_where_one-n-requires c = let l = c.loop-quarter in
    let bits = c.args.bits in
    let so_far = ones_so_far bits l.quarter c.loop-quarter-test.true in
    (omega (arith, bit_small bits l.quarter), omega (arith, so_far, l.invariant.counted, l.invariant.same_lists.keys_long, c.requires.2.keys_room), omega (arith, so_far, l.invariant.counted, l.invariant.same_lists.corners_long, c.requires.2.corners_room))

pub after-next-requires : goal.after-next-requires
after-next-requires c = let bits = c.args.bits in
    let l = c.loop-quarter in
    omega (arith, l.invariant.groups, bit_small bits l.quarter, ones_so_far bits l.quarter c.loop-quarter-test.true, ones_few bits)

pub loop-quarter-preserved : goal.loop-quarter-preserved
loop-quarter-preserved c = let a = c.args in
    let l = c.loop-quarter in
    let more = ones_to_suc a.bits l.quarter in
    let q = c.quarter.ensures in
    record {
      groups = rw (add-one l.quarter) (omega (arith, l.invariant.groups, more));
      counted = rw (add-one l.quarter) (omega (arith, l.invariant.counted, more));
      added = quarters_more (place_of a.q.place) (a.s.level - 1) a.first.0 a.bits (box_of a.s) a.pending a.self.now.keys.now a.self.now.corners.now l.n l.quarter l.next.0 l.invariant.counted l.invariant.groups l.invariant.added
          (rw (c.bit_in-bit.ensures, q.2, q.0, q.1) at c.add_where_one-n.ensures.added);
      same_lists = same_more l.invariant.same_lists c.add_where_one-n.ensures.same_lists;
    }

pub returns-clause-opened : goal.returns-clause-opened
returns-clause-opened c = let a = c.args in
    let l = c.loop-quarter in
    let all : l.quarter ≡ 4 = omega arith in
    quarters_all (place_of a.q.place) (a.s.level - 1) a.first.0 a.bits (box_of a.s) a.pending a.self.now.keys.now a.self.now.corners.now (rw all at l.invariant.counted) (rw all at l.invariant.added)

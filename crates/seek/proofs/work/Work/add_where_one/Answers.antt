-- `seek::work::Work::add_where_one` meets its contract. Assumes nothing.
use Rattle.keys.specs.Places.{place_of}
use Rattle.seek.specs.Spots.{box_of}
use Rattle.seek.proofs.Packing.{joined_none, joined_one}
use Rattle.seek.proofs.work.Work.add_where_one.Goals as goal

pub returns-then-bit-eq0-clause-added : goal.returns-then-bit-eq0-clause-added
returns-then-bit-eq0-clause-added c = let a = c.args in
    joined_none (place_of a.q.place) a.s.level a.s.group.0 a.pending (box_of a.s) a.self.now.keys.now a.self.now.corners.now a.bit c.if-bit-eq0.true

pub returns-clause-added : goal.returns-clause-added
returns-clause-added c = joined_one _ _ _ _ (box_of c.args.s) _ _ _ _ _ _ _ c.if-bit-eq0.false c.entry.ensures c.add.ensures.added

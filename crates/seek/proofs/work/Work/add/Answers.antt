-- `seek::work::Work::add` meets its contract. Assumes nothing.
use native.Mathlib.Omega.{arith}
use Rattle.seek.proofs.Heaped.{added_one}
use Rattle.seek.proofs.work.Work.add.Goals as goal

pub returns-clause-added : goal.returns-clause-added
returns-clause-added c =
    let w = c.args.self.now in
    let stored = c.put.ensures.stored in
    let s = c.sift_up.ensures in
    added_one c.args.pending c.args.e.key c.args.e.corner w.keys.now w.corners.now _ _ c.requires.0 c.requires.1 (rw (stored.0, stored.1) at s.sifted) (rw stored.0 at s.behind) (omega (arith, s.same_lists.keys_long, c.put.ensures.same_lists.keys_long)) (omega (arith, s.same_lists.corners_long, c.put.ensures.same_lists.corners_long))

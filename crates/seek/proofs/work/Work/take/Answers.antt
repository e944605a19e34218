-- `seek::work::Work::take` meets its contract. Assumes nothing.
use Prim.Native.Nat.{◌^◌, ◌<◌}
use native.Mathlib.Omega.{arith}
use Rattle.seek.proofs.Heaped.{taken}
use Rattle.seek.proofs.work.Work.take.Goals as goal

pub returns-clause-taken : goal.returns-clause-taken
returns-clause-taken c =
    let w = c.args.self.now in
    let first = c.at-first.ensures in
    let last = c.at.ensures in
    let stored = c.put.ensures.stored in
    let s = c.sift_down.ensures in
    let fits : c.at-first.result.corner < 2 ^ 32 = omega (arith, c.at-first.type_inv) in
    rw (first.0, first.1) (taken c.args.pending w.keys.now w.corners.now _ _ c.requires.0 c.requires.1 c.requires.2 (rw first.1 at fits) (rw (stored.0, stored.1, last.0, last.1) at s.sifted) (rw (stored.0, last.0) at s.behind) (omega (arith, s.same_lists.keys_long, c.put.ensures.same_lists.keys_long)) (omega (arith, s.same_lists.corners_long, c.put.ensures.same_lists.corners_long)))

-- `seek::find::from_whole` meets its contract. Assumes nothing.
use mathlib.Core.Path.{ap, ◌∙◌}
use lib.ListN.{length, length-replicate}
use Rattle.seek.proofs.Beginning.{begins}
use Rattle.seek.proofs.find.from_whole.Goals as goal

pub seek-requires : goal.seek-requires
seek-requires c = let pre = c.requires in
    let q = c.args.q in
    let e = c.entry in
    let w = c.whole.ensures in
    begins e.result.key e.result.corner q.ready q.some pre.0 pre.1 (rw (w.2, w.0, w.1) at e.ensures) c.add.ensures.added (length c.args.trail.now) c.clear.ensures

pub returns-clause-ends : goal.returns-clause-ends
unfolding begins
returns-clause-ends c = let pre = c.requires in
    let q = c.args.q in
    let e = c.entry in
    let w = c.whole.ensures in
    let added = c.add.ensures.added in
    let zeros = c.clear.ensures in
    let ends = c.seek.ensures.ends (begins e.result.key e.result.corner q.ready q.some pre.0 pre.1 (rw (w.2, w.0, w.1) at e.ensures) added (length c.args.trail.now) zeros) in
    rw (ap length zeros ∙ length-replicate (length c.args.trail.now) 0, added.keys_long, added.corners_long) at ends

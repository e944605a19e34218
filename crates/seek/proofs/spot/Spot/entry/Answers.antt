-- `seek::spot::Spot::entry` meets its contract. Assumes nothing.
use native.Mathlib.Omega.{arith}
use Rattle.signed.proofs.Signed.{back}
use Rattle.seek.specs.Spots.{box_of}
use Rattle.seek.proofs.Packing.{packs_joint, packs_box, corner_room}
use Rattle.seek.proofs.spot.Spot.entry.Goals as goal

pub returns-then-self-eq0 : goal.returns-then-self-eq0
returns-then-self-eq0 c = let a = c.args in
    let s = a.self in
    packs_joint _ s.group.0 s.row s.column c.joint_key.result (box_of s) s.level _ c.if-self-eq0.true s.begins (rw (back a.q.place.row (omega arith), back a.q.place.column (omega arith), c.side.ensures) at c.near-d.ensures) c.joint_key.ensures

pub corner_of-requires : goal.corner_of-requires
corner_of-requires c = corner_room c.args.self.fits

pub returns : goal.returns
returns c = let a = c.args in
    let s = a.self in
    rw c.corner_of.ensures (packs_box _ s.group.0 s.row s.column c.box_key.result (box_of s) s.level _ c.if-self-eq0.false s.begins (rw (back a.q.place.row (omega arith), back a.q.place.column (omega arith), c.side.ensures) at c.near-d.ensures) c.box_key.ensures)

-- `seek::step::step_core` meets its contract. Assumes nothing.
use native.Mathlib.Omega.{arith}
use Rattle.seek.proofs.Steps.{step_room, step_box, ones_room, tally_small, stepped_joint, stepped_box, kind_joint, kind_box}
use Rattle.seek.proofs.step.step_core.Goals as goal

pub hand_out-requires : goal.hand_out-requires
hand_out-requires c = let go = c.requires in
    let tk = c.take-e.ensures.taken in
    omega (arith, step_room _ _ _ _ _ _ go tk, kind_joint c.take-e.result.key c.is_joint.ensures c.if-is_joint.true, go.searching.keys_room, tk.keys_long)

pub overflow_add-result : goal.overflow_add-result
overflow_add-result c = omega (arith, tally_small c.requires.searching)

pub returns-then-is_joint-clause-stepped : goal.returns-then-is_joint-clause-stepped
returns-then-is_joint-clause-stepped c =
    rw (c.hand_out.ensures.kept, c.hand_out.ensures.corners) (stepped_joint _ _ _ _ _ _ c.requires c.take-e.ensures.taken _ (kind_joint c.take-e.result.key c.is_joint.ensures c.if-is_joint.true))

pub open_entry-pending-requires : goal.open_entry-pending-requires
open_entry-pending-requires c = let go = c.requires in
    let tk = c.take-e.ensures.taken in
    let box = kind_box c.take-e.result.key c.is_joint.ensures c.if-is_joint.false in
    (step_box _ _ _ _ _ _ go tk box, ones_room _ _ _ _ _ _ go tk box)

pub overflow_add-result-2 : goal.overflow_add-result-2
overflow_add-result-2 c = omega (arith, tally_small c.requires.searching)

pub overflow_cast-result : goal.overflow_cast-result
overflow_cast-result c = let go = c.requires in
    let tk = c.take-e.ensures.taken in
    omega (arith, c.open_entry-pending.ensures.opened.counted, step_room _ _ _ _ _ _ go tk, tally_small go.searching)

pub returns-clause-stepped : goal.returns-clause-stepped
returns-clause-stepped c = rw (c.join.ensures, c.group_of.ensures) (stepped_box _ _ _ _ _ _ c.requires c.take-e.ensures.taken _ (kind_box c.take-e.result.key c.is_joint.ensures c.if-is_joint.false) c.open_entry-pending.ensures.opened)

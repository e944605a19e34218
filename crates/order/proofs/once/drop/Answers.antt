use native.Mathlib.Omega.{arith}
use Rattle.order.proofs.Distinct.{once_start, once_same, once_new, dropped_none}
use Rattle.order.proofs.once.drop.Goals as goal
use Rattle.order.proofs.once.drop.Goals.{then-x-last, else-x-last}

pub returns-then-n-eq0 : goal.returns-then-n-eq0
returns-then-n-eq0 c = dropped_none _ _ c.if-n-eq0.true

pub loop-i-init : goal.loop-i-init
loop-i-init c = once_start _ (omega arith)

pub loop-i-preserved : goal.loop-i-preserved
loop-i-preserved c =
    let at = c.loop-i.invariant in
    elim c.if-x-last.branch [
      | then-x-last w ↦ rw (w.list-is, w.kept-is, w.last-is) (once_new at (omega arith) w.if-x-last.true)
      | else-x-last w ↦ rw (w.list-is, w.kept-is, w.last-is) (once_same at (omega arith) w.if-x-last.false)
    ]

-- `order::once::drop` meets its contract. The loop's invariant, `Once`: the list is what is kept of those seen, zeros, and those not seen.
use Rattle.order.proofs.Distinct.{Once}
use Rattle.order.proofs.once.drop.Given as goal

abbrev pub invariant-loop-i : goal.invariant-loop-i
invariant-loop-i l = Once l.initial.list l.list l.i l.kept l.last

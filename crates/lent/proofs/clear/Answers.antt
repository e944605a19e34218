use Rattle.std.proofs.Common.{suc, ◌+◌, ◌≡◌, arith}
use Rattle.lent.proofs.Clearing.{one_more}
use Rattle.lent.proofs.clear.Goals as goal

pub loop-place-preserved : goal.loop-place-preserved
loop-place-preserved g c = let w = c.loop-place in let next : w.place-index + 1 ≡ suc w.place-index = omega arith in rw (next, c.zero.ensures, w.invariant) (one_more w.place-index g.T.Zero.zero c.args.list.now (omega arith))

-- `nearest::answer::deliver` meets its contract. Assumes nothing.
use native.Mathlib.Omega.{arith}
use Rattle.nearest.proofs.Answering.{put_all}
use Rattle.nearest.proofs.answer.deliver.Goals as goal

pub returns : goal.returns
returns c = let l = c.loop-at in
    put_all c.args.n c.args.keys.now l.at c.args.list.now l.list c.requires.1 (omega arith) l.invariant

-- `nearest::answer::pick` meets its contract. Assumes nothing.
use Prim.Native.Nat.{suc, ◌-◌}
use mathlib.Core.Path.{◌≡◌, ◌∙◌}
use native.Mathlib.Omega.{arith}
use lib.ListN.{length}
use Rattle.nearest.proofs.Answering.{answer_zero, picked, not_picked}
use Rattle.nearest.proofs.answer.pick.Goals as goal

pub answer_of-requires : goal.answer_of-requires
answer_of-requires c = let e : length c.args.keys.now - 1 - c.args.at ≡ length c.args.keys.now - suc c.args.at = omega arith in rw (← e) at (c.requires.small c.args.at c.if-at-n.true)

pub returns-then-at-n : goal.returns-then-at-n
returns-then-at-n c = let keys = c.args.keys.now in
    let at = c.args.at in
    let e : length keys - 1 - at ≡ length keys - suc at = omega arith in
    rw e at c.answer_of.ensures ∙ picked c.args.n keys at c.if-at-n.true

pub returns : goal.returns
returns c = let z = c.default.ensures in answer_zero z.0 z.1.0 z.1.1 ∙ not_picked c.args.n c.args.keys.now c.args.at c.if-at-n.false

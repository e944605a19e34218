use mathlib.Core.Path.{sym, ◌∙◌}
use native.Mathlib.Omega.{arith}
use borrow.Author.Tests.{eqb-true}
use Rattle.board.specs.Limits.{max_height, max_joints}
use Rattle.build.proofs.Descent.{descent_end, descent_none}
use Rattle.build.proofs.levels.write_levels.Goals as goal

pub returns-then-is_empty : goal.returns-then-is_empty
unfolding max_height max_joints
returns-then-is_empty c =
    let p = c.requires in
    let one = rw c.root-g.ensures at c.after.ensures in
    (rw one (descent_none _ _ _ (eqb-true _ 0 (sym c.is_empty.ensures ∙ c.if-is_empty.true)) p.0 p.5), omega (arith, one))

pub returns : goal.returns
unfolding max_height max_joints
returns c =
    let d = c.loop-s.invariant.0 in
    (descent_end _ _ _ _ _ d (omega arith), omega (arith, d.few, d.high))

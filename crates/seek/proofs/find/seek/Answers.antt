-- `seek::find::seek` meets its contract. Assumes nothing.
use native.Mathlib.Omega.{arith}
use Rattle.seek.proofs.Going.{known_start, known_goes, known_next, known_ends, known_long}
use Rattle.seek.proofs.Steps.{tally_small, steps_count}
use Rattle.seek.proofs.Works.{same_none, same_more}
use Rattle.seek.proofs.find.seek.Goals as goal

pub loop-t-init : goal.loop-t-init
loop-t-init c = record { same_lists = same_none; known = λ b. known_start b }

pub step-requires : goal.step-requires
step-requires c = let on = c.goes_on.ensures.on c.loop-t-test.true in
    known_goes (c.loop-t.invariant.known c.requires) on.0 on.1

pub loop-t-smaller : goal.loop-t-smaller
loop-t-smaller c = let on = c.goes_on.ensures.on c.loop-t-test.true in
    omega (arith, steps_count c.step.ensures.stepped, tally_small (known_goes (c.loop-t.invariant.known c.requires) on.0 on.1).searching)

pub loop-t-preserved : goal.loop-t-preserved
loop-t-preserved c = let on = c.goes_on.ensures.on c.loop-t-test.true in
    let i = c.loop-t.invariant in
    record { same_lists = same_more i.same_lists c.step.ensures.same_lists; known = λ b. known_next (i.known b) on.0 on.1 c.step.ensures.stepped }

pub returns-clause-ends : goal.returns-clause-ends
returns-clause-ends c = λ b. let known = c.loop-t.invariant.known b in known_ends known b.some (rw (known_long known) at (c.goes_on.ensures.over c.loop-t-test.false))

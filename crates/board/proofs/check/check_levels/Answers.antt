use mathlib.Core.Bool.{true}
use mathlib.Core.Path.{◌≡◌, refl, sym, ap, ◌∙◌}
use native.Mathlib.Omega.{arith}
use Rattle.std.proofs.lemmas.Result.{err_from_is_err_and}
use Rattle.refusal.proofs.Answers.{not_both}
use Rattle.bitmap.specs.Bits.{group_at}
use Rattle.refusal.specs.Results.{answer_by}
use Rattle.board.proofs.Reading.{no_fault, one_fault, level_start, group_step, run_step, level_step, level_fault}
use Rattle.board.proofs.check.check_levels.Goals as goal
use Rattle.board.proofs.check.check_levels.Goals.{else-levels-test, then-levels-test+then-loop-n-test+in_default+then-is_err}

pub levels-init : goal.levels-init
levels-init c = (refl, omega arith, rw c.root-group.ensures (level_start c.args.bytes.now))

pub loop-n-preserved-in-Some : goal.loop-n-preserved-in-Some
loop-n-preserved-in-Some c =
    let w = c.loop-n in
    let l = c.levels in
    let s = c in
    let e = c.in-Some.ensures in (
      w.invariant.0,
      rw c.after-group.ensures
          (run_step s.args.bytes.now l._level w.ones w.n w.group.0 c.in-Some.many w.invariant.1 (omega (arith, l.invariant.2.counts, e.1)) e.2 e.0),
    )

pub loop-n-preserved : goal.loop-n-preserved
loop-n-preserved c =
    let w = c.loop-n in
    let l = c.levels in
    let s = c in
    let told = no_fault c.fault_at-fault.result (sym c.is_err.ensures.value ∙ c.if-is_err.false) in
    let good = one_fault s.args.bytes.now w.group.0 (sym c.fault_at-fault.ensures ∙ ap (answer_by (λ _. true)) told) in
    let bits : group_at s.args.bytes.now w.group.0 ≡ c.group_at.result = sym c.group_at.ensures.0 in (
      told,
      rw (c.after-group-in-loop-n.ensures, c.ones_of-ones.ensures, ← bits)
          (group_step s.args.bytes.now l._level w.ones w.n w.group.0 w.invariant.1 (omega (arith, l.invariant.2.counts, c.loop-n-test.true)) good),
    )

pub levels-preserved : goal.levels-preserved
levels-preserved c =
    let w = c.loop-n in
    let l = c.levels in
    (w.invariant.0, omega (arith, c.levels-test.true), level_step _ l._level w.ones w.n w.group.0 w.invariant.1 (omega (arith, l.invariant.2.counts, c.loop-n-test.false)))

pub returns-in_err-fault : goal.returns-in_err-fault
returns-in_err-fault c =
    let s = c in
    let l = c.levels in
    let told = c.in_err-fault.was in
    let p = err_from_is_err_and c.from_residual.result c.from_residual.ensures.1 in
    rw (p.1, p.2) (elim c.levels-test.branch [
      | else-levels-test w ↦ absurd (not_both (ap (answer_by (λ _. true)) (sym told ∙ w.fault-is ∙ l.invariant.0)))
      | then-levels-test+then-loop-n-test+in_default+then-is_err w ↦
          level_fault s.args.height s.args.bytes.now l._level w.loop-n.ones w.loop-n.n w.loop-n.group.0 s.requires.0 s.requires.1 w.levels-test.true w.loop-n.invariant.1
          (omega (arith, l.invariant.2.counts, w.loop-n-test.true)) (sym w.fault_at-fault.ensures ∙ ap (answer_by (λ _. true)) (sym w.fault-is ∙ told))
    ])

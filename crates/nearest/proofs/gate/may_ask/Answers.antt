-- `nearest::gate::may_ask` meets its contract. Assumes nothing.
use mathlib.Core.Path.{sym, ap, ◌∙◌}
use Rattle.std.proofs.lemmas.Result.{err_from_is_err_and}
use Rattle.board.specs.Numbers.{numbers_of}
use Rattle.board.proofs.Asking.{asked_refused, asked_served, asked_sound}
use Rattle.nearest.proofs.gate.may_ask.Goals as goal

pub returns-in_err-counts : goal.returns-in_err-counts
returns-in_err-counts c =
    let b = c.args.board in
    let p = err_from_is_err_and c.from_residual.result c.from_residual.ensures.1 in
    rw (p.1, p.2) (asked_refused b.height b.bytes.now b.directory.now _ (sym c.ask.ensures ∙ ap numbers_of c.in_err-counts.was))

pub returns : goal.returns
returns c =
    let b = c.args.board in
    let e = sym c.ask.ensures ∙ ap numbers_of c.in_ok-counts.was in
    let s = asked_sound b.height b.bytes.now b.directory.now _ _ e in
    rw s.joints_are at c.question_passes.ensures ∙ sym (asked_served b.height b.bytes.now b.directory.now _ e)

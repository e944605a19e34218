-- Refused for what is given, or built from the codes of the cells.
use mathlib.Core.Path.{sym, ap, ◌∙◌}
use mathlib.Core.Bool.{true}
use Rattle.refusal.specs.Results.{answer_by}
use Rattle.build.proofs.Building.{kept_refused, given_refused, filled_kept}
use Rattle.build.proofs.build.Goals as goal

pub returns-in-Err : goal.returns-in-Err
returns-in-Err c = kept_refused _ _ _ _ _ _ _ (given_refused _ _ _ _ _ _ (sym c.check_given.ensures ∙ ap (answer_by (λ _. true)) c.in-Err.is)) c.clear.ensures c.clear-in-Err.ensures

pub returns : goal.returns
returns c =
    let a = c.args in
    let e = sym c.check_given.ensures ∙ ap (answer_by (λ _. true)) c.in_default.is in
    filled_kept _ a.rows.now a.columns.now a.work.now _ e c.fill.ensures _ _ _ _ c.fill.auto.work c.build_codes.ensures

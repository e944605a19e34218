-- `window::window` meets its contract: both lists are cleared first, so that a refusal leaves zeros. Assumes nothing.
use mathlib.Core.Path.{refl, sym, ap, ◌∙◌}
use lib.ListN.{length}
use Rattle.std.proofs.Common.{rules}
use Rattle.std.proofs.lemmas.Result.{err_from_is_err_and}
use Rattle.board.specs.Numbers.{numbers_of}
use Rattle.window.specs.Window.{ends}
use Rattle.board.proofs.Asking.{asked_ready}
use Rattle.window.proofs.Showing.{cleared, shown_refused, shown_same, window_stays, window_off, window_shown}
use Rattle.window.proofs.window.Goals as goal

pub returns-in_err-ask : goal.returns-in_err-ask
returns-in_err-ask c =
    let a = c.args in
    let b = a.board in
    let p = err_from_is_err_and c.from_residual.result c.from_residual.ensures.1 in
    rw (p.1, p.2) (shown_same (shown_refused _ _ _ _ a.rows.now _ a.columns.now _
    (window_stays b.height b.bytes.now b.directory.now (ends a.lowest_row a.highest_row a.lowest_column a.highest_column) (length a.rows.now) (length a.columns.now) (sym c.ask.ensures ∙ ap numbers_of c.in_err-ask.was))
    refl c.clear.ensures.cleared.0 c.clear.ensures.cleared.1) (search rules) (search rules))

pub returns-then-not-window_fits : goal.returns-then-not-window_fits
returns-then-not-window_fits c =
    let a = c.args in
    let b = a.board in
    shown_same (shown_refused _ _ _ 12 a.rows.now _ a.columns.now _
    (window_off b.height b.bytes.now b.directory.now (ends a.lowest_row a.highest_row a.lowest_column a.highest_column) (length a.rows.now) (length a.columns.now) (sym c.ask.ensures ∙ ap numbers_of c.in_ok-ask.was)
    (sym c.window_fits.ensures ∙ c.if-not-window_fits.true))
    refl c.clear.ensures.cleared.0 c.clear.ensures.cleared.1) (search rules) (search rules)

pub returns : goal.returns
returns c =
    let a = c.args in
    let b = a.board in
    shown_same (window_shown b.height b.bytes.now b.directory.now (ends a.lowest_row a.highest_row a.lowest_column a.highest_column) (length a.rows.now) (length a.columns.now) (sym c.ask.ensures ∙ ap numbers_of c.in_ok-ask.was)
    c.list_pane.result a.rows.now a.columns.now _ _ _ _ refl refl c.clear.ensures.cleared.0 c.clear.ensures.cleared.1 (sym c.window_fits.ensures ∙ c.if-not-window_fits.false) c.list_pane.ensures.shown) (search rules) (search rules)

pub list_pane-requires : goal.list_pane-requires
list_pane-requires c =
    let a = c.args in
    let b = a.board in
    ((asked_ready b.height b.bytes.now b.directory.now _ _ (sym c.ask.ensures ∙ ap numbers_of c.in_ok-ask.was)), (cleared a.rows.now _ c.clear.ensures.cleared.0).0, (cleared a.columns.now _ c.clear.ensures.cleared.1).0)

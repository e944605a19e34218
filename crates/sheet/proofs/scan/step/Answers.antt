-- A record that is refused is refused at its offset.
use mathlib.Core.Path.{sym}
use Rattle.std.proofs.Common.{rules}
use Rattle.std.proofs.lemmas.Result.{err_from_is_err_and}
use Rattle.sheet.proofs.Scanning.{turned_err, stepped_refused}
use Rattle.sheet.proofs.scan.step.Goals as goal

pub returns-in_err-read : goal.returns-in_err-read
returns-in_err-read c =
    let g = c.args in
    let p = err_from_is_err_and c.from_residual.result c.from_residual.ensures.1 in
    let t = turned_err c.record_at.result c.map_err.result g.place.at (search rules) c.in_err-read.was in
    rw (p.1, p.2, t.2) (stepped_refused g.sheet.now g.place c.requires.0 t.0 (sym (rw t.1 at c.record_at.ensures)))

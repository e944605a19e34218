-- A step that ends the scan gives its answer, and so does the sheet's end.
use native.Mathlib.Omega.{arith}
use Rattle.std.proofs.lemmas.Result.{err_from_is_err_and}
use Rattle.sheet.proofs.Scanning.{scanning_off, scanning_none}
use Rattle.sheet.proofs.scan.scan.Goals as goal

pub returns-in_err-next : goal.returns-in_err-next
returns-in_err-next c =
    let w = c.loop-place in
    let p = err_from_is_err_and c.from_residual.result c.from_residual.ensures.1 in
    rw (p.1, p.2) (scanning_off c.args.sheet.now w.place w.invariant _ (omega arith) c.in_err-next.ensures.goes)

pub returns-in-None : goal.returns-in-None
returns-in-None c =
    let w = c.loop-place in
    let stepped = rw c.in-None.is at c.in_ok-next.ensures in
    scanning_off c.args.sheet.now w.place w.invariant _ (omega arith) stepped.goes

pub returns : goal.returns
returns c = scanning_none c.args.sheet.now c.loop-place.place c.loop-place.invariant (omega arith)

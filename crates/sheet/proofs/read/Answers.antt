-- Cleared, scanned, then built: the first refusal is the answer.
use mathlib.Core.Path.{sym}
use native.Mathlib.Omega.{arith}
use Rattle.std.proofs.Common.{rules}
use Rattle.std.proofs.lemmas.Result.{err_from_is_err_and}
use Rattle.sheet.proofs.Scanning.{turned_ok, turned_err}
use Rattle.sheet.proofs.Reading.{scan_accepts, promise_refused, promise_board, promise_not_built}
use Rattle.sheet.proofs.read.Goals as goal

pub returns-in_err-height : goal.returns-in_err-height
returns-in_err-height c =
    let g = c.args in
    let p = err_from_is_err_and c.from_residual.result c.from_residual.ensures.1 in
    rw (p.1, p.2) (promise_refused g.sheet.now g.work.now g.bitmap.now _ _ c.clear.ensures c.clear-2.ensures _ _ (sym c.in_err-height.ensures))

pub build_joints-requires : goal.build_joints-requires
build_joints-requires c =
    let g = c.args in
    scan_accepts g.sheet.now _ _ (sym c.in_ok-height.ensures) λ rs k height many. ((rs, k, height, many), omega arith)

pub returns-in_err-built : goal.returns-in_err-built
returns-in_err-built c =
    let g = c.args in
    let p = err_from_is_err_and c.from_residual-in_err-built.result c.from_residual-in_err-built.ensures.1 in
    let t = turned_err c.build_joints.result c.map_err.result 0 (search rules) c.in_err-built.was in
    rw (p.1, p.2, t.2) (promise_not_built g.sheet.now g.work.now g.bitmap.now _ _ c.clear.ensures c.clear-2.ensures _ _ (sym c.in_ok-height.ensures) (omega arith) _ _ _ (rw t.1 at c.build_joints.ensures))

pub returns : goal.returns
returns c =
    let g = c.args in
    let t = turned_ok c.build_joints.result c.map_err.result 0 (search rules) c.in_ok-built.was in
    promise_board g.sheet.now g.work.now g.bitmap.now _ _ c.clear.ensures c.clear-2.ensures _ _ (sym c.in_ok-height.ensures) (omega arith) _ _ _ (rw t at c.build_joints.ensures)

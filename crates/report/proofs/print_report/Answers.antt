use mathlib.Core.Path.{sym}
use native.Mathlib.Omega.{arith}
use lib.Seq.{length-take-le}
use Rattle.lines.proofs.Starting.{started_board}
use Rattle.report.proofs.print_report.Goals as goal

pub slice_bounds-bytes-end : goal.slice_bounds-bytes-end
slice_bounds-bytes-end c =
    let a = c.args in
    let pre = c.requires in
    let size = c.in-Some.size in
    (started_board a.sheet.now a.work.now a.bitmap.now a.out.now size.height size.length size.requests c.first_line-begun.result.end _ _ _ pre.0 pre.1 (rw c.in-Some.is at c.first_line-begun.ensures)).2

pub slice_bounds-bytes-end-in-Some : goal.slice_bounds-bytes-end-in-Some
slice_bounds-bytes-end-in-Some c = sym (length-take-le _ _ (slice_bounds-bytes-end c))

pub print_requests-requires : goal.print_requests-requires
print_requests-requires c =
    let a = c.args in
    let pre = c.requires in
    let size = c.in-Some.size in
    let board = started_board a.sheet.now a.work.now a.bitmap.now a.out.now size.height size.length size.requests c.first_line-begun.result.end _ _ _ pre.0 pre.1 (rw c.in-Some.is at c.first_line-begun.ensures) in
    (board.0, board.1, pre.2, pre.3, omega (arith, pre.4))

use native.Mathlib.Omega.{arith}
use Rattle.records.specs.declared.kind.Stage.TheVariants.{Requests}
use Rattle.records.specs.Records.{record_at}
use Rattle.lines.proofs.Chunks.{next_on}
use Rattle.report.proofs.print_from.Goals as goal

pub loop-at-smaller : goal.loop-at-smaller
loop-at-smaller c =
    let a = c.args in
    let at = c.loop-at.at in
    omega (arith, c.next_lines-chunk.ensures.0.next, next_on a.sheet.now at (record_at Requests a.board.height a.sheet.now at) (omega arith))

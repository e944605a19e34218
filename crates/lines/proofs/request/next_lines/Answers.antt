use native.Mathlib.Omega.{arith}
use Rattle.lines.proofs.Desk.{board_low}
use Rattle.lines.proofs.request.next_lines.Goals as goal

pub chunk_at-next-requires : goal.chunk_at-next-requires
chunk_at-next-requires c =
    let g = c.args in
    let pre = c.requires in (
      pre.1,
      board_low g.sheet.now g.board.height g.board.bytes.now pre.0.board,
      omega (arith, pre.2),
    )

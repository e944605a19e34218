use mathlib.Core.Path.{sym, ◌∙◌}
use mathlib.Core.List.{flat_map}
use native.Mathlib.Omega.{arith}
use lib.ListN.{take}
use lib.Seq.{length-take-le}
use Rattle.board.specs.Limits.{max_joints}
use Rattle.text.specs.Text.{text_of}
use Rattle.text.specs.Lines.{win_line}
use Rattle.text.proofs.Putting.{put-length}
use Rattle.text.proofs.Paging.{puts_then}
use Rattle.lines.proofs.Room.{one_word, words_take, line_short, ins_short}
use Rattle.lines.proofs.record.put_cells.Goals as goal

pub put_win-requires : goal.put_win-requires
put_win-requires c =
    let n = c.args.count in
    omega (arith, line_short (win_line n) (one_word n (omega arith)))

pub put_ins-requires : goal.put_ins-requires
unfolding max_joints
put_ins-requires c =
    let g = c.args in
    let n = g.count in
    let rows = g.rows.now in
    let columns = g.columns.now in
    let some = length-take-le n rows (omega arith) in
    let e = c.put_win.ensures.put in
    let short = ins_short (take n rows) (take n columns) (words_take n rows (λ i. omega (arith, c.type_inv.rows i))) (words_take n columns (λ i. omega (arith, c.type_inv.columns i))) in
    (some ∙ sym (length-take-le n columns (omega arith)), omega (arith, e.place, put-length e, short, some, line_short (win_line n) (one_word n (omega arith))))

pub returns : goal.returns
unfolding text_of flat_map
returns c = puts_then c.put_win.ensures c.put_ins.ensures

use mathlib.Core.Path.{◌≡◌}
use mathlib.Core.List.{flat_map}
use native.Mathlib.Omega.{arith}
use lib.ListN.{length, length-append}
use lib.Seq.{take-length}
use Rattle.std.proofs.Common.{rules}
use Rattle.std.proofs.lemmas.Slice.Zip.{zip_turn, zip_end}
use Rattle.text.specs.Text.{bytes_of, text_of}
use Rattle.text.specs.Lines.{in_lines, end_line}
use Rattle.text.proofs.Paging.{puts_none, puts_next, room_next}
use Rattle.text.proofs.Inside.{ins_length, ins_at}
use Rattle.text.proofs.page.Page.put_ins.Goals as goal

pub loop-row-init : goal.loop-row-init
unfolding flat_map
loop-row-init c = puts_none c.args.self.now (omega arith)

pub put_in-requires : goal.put_in-requires
unfolding text_of
put_in-requires c =
    let rows = c.args.rows.now in
    let columns = c.args.columns.now in
    let i = length c.loop-row.yielded in
    let turn = zip_turn rows columns c.loop-row.yielded _ _ c.next.new.self _ (search rules) (search rules) c.loop-row.yielded_by _ c.in-Some.is c.next.ensures.steps in
    let room = room_next bytes_of (in_lines rows columns) i end_line (omega (arith, turn.0, ins_length rows columns c.requires.0)) c.requires.1 c.loop-row.invariant in
    rw (turn.2 0, turn.3 0, ← ins_at rows columns i end_line c.requires.0 turn.0) room

pub loop-row-preserved : goal.loop-row-preserved
loop-row-preserved c =
    let rows = c.args.rows.now in
    let columns = c.args.columns.now in
    let i = length c.loop-row.yielded in
    let turn = zip_turn rows columns c.loop-row.yielded _ _ c.next.new.self _ (search rules) (search rules) c.loop-row.yielded_by _ c.in-Some.is c.next.ensures.steps in
    let put = rw (turn.2 0, turn.3 0, ← ins_at rows columns i end_line c.requires.0 turn.0) at c.put_in.ensures in
    rw length-append (puts_next bytes_of (in_lines rows columns) i end_line (omega (arith, turn.0, ins_length rows columns c.requires.0)) c.loop-row.invariant put)

pub returns : goal.returns
unfolding text_of
returns c =
    let rows = c.args.rows.now in
    let columns = c.args.columns.now in
    let end = zip_end rows columns c.loop-row.yielded _ _ c.next.new.self _ (search rules) (search rules) c.loop-row.yielded_by c.in-None.is c.next.ensures.steps in
    let all : length c.loop-row.yielded ≡ length (in_lines rows columns) = omega (arith, end, c.requires.0, ins_length rows columns c.requires.0) in
    rw (all, take-length (in_lines rows columns)) at c.loop-row.invariant

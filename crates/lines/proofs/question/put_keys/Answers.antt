use Prim.Native.Nat.{suc, ◌-◌}
use mathlib.Core.Path.{◌≡◌}
use mathlib.Core.List.{map, flat_map}
use native.Mathlib.Omega.{arith}
use lib.ListN.{length}
use lib.Seq.{take-length}
use Rattle.seek.specs.Step.{handed_in}
use Rattle.text.specs.Text.{bytes_of, text_of}
use Rattle.lines.specs.Report.{key_line}
use Rattle.text.proofs.Paging.{puts_none, puts_next, room_next}
use Rattle.lines.proofs.Asking.{keys_length, keys_at}
use Rattle.lines.proofs.question.put_keys.Goals as goal

pub loop-i-init : goal.loop-i-init
unfolding flat_map
loop-i-init c = puts_none c.args.page.now (omega arith)

pub put_key-requires : goal.put_key-requires
unfolding text_of
put_key-requires c =
    let l = c.loop-i in
    let g = c.args in
    let keys = g.keys.now in
    let all = map key_line (handed_in g.n keys) in
    let room = room_next bytes_of all l.i (key_line 0) (omega (arith, keys_length g.n keys)) c.requires.1 l.invariant in
    let same : length keys - suc l.i ≡ length keys - 1 - l.i = omega arith in
    (rw same at (c.requires.0.small l.i (omega arith)), rw (keys_at g.n keys l.i (omega arith)) at room)

pub loop-i-preserved : goal.loop-i-preserved
loop-i-preserved c =
    let l = c.loop-i in
    let g = c.args in
    let keys = g.keys.now in
    let line = keys_at g.n keys l.i (omega arith) in
    puts_next bytes_of (map key_line (handed_in g.n keys)) l.i (key_line 0) (omega (arith, keys_length g.n keys)) l.invariant (rw line c.put_key.ensures)

pub returns : goal.returns
unfolding text_of
returns c =
    let g = c.args in
    let lines = map key_line (handed_in g.n g.keys.now) in
    let all : c.loop-i.i ≡ length lines = omega (arith, keys_length g.n g.keys.now) in
    rw (all, take-length lines) at c.loop-i.invariant

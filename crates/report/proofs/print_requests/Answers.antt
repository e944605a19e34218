use Prim.Native.Nat.{◌≤◌}
use mathlib.Core.Path.{◌≡◌, sym, ◌∙◌}
use native.Mathlib.Omega.{arith}
use lib.ListN.{length, take, drop, length-append, length-drop}
use lib.Seq.{length-take-le, take_at}
use Rattle.bitmap.specs.Directory.{blocks}
use Rattle.lines.proofs.Desk.{board_short, board_directory, on_desk}
use Rattle.report.proofs.print_requests.Goals as goal

pub slice_bounds-make_directory-end : goal.slice_bounds-make_directory-end
unfolding blocks
slice_bounds-make_directory-end c =
    let a = c.args in
    omega (arith, c.blocks_of-count.ensures, board_short a.sheet.now a.height a.bytes.now c.requires.0)

pub slice_bounds-make_directory-end-2 : goal.slice_bounds-make_directory-end-2
unfolding blocks
slice_bounds-make_directory-end-2 c =
    let a = c.args in
    sym (length-take-le _ _ (omega (arith, c.blocks_of-count.ensures, board_short a.sheet.now a.height a.bytes.now c.requires.0)))

pub slice_bounds-board-end : goal.slice_bounds-board-end
unfolding blocks
slice_bounds-board-end c =
    let a = c.args in
    let count = c.blocks_of-count.result in
    let list = a.blocks.now in
    let short = board_short a.sheet.now a.height a.bytes.now c.requires.0 in
    let few : count ≤ length list = omega (arith, c.blocks_of-count.ensures, short) in
    let as_long : length c.make_directory.new.directory ≡ length (take count list) = omega arith in
    simp (length-append, length-drop) (omega (arith, length-take-le count list few))

pub slice_bounds-board-end-2 : goal.slice_bounds-board-end-2
slice_bounds-board-end-2 c = sym (length-take-le _ _ (slice_bounds-board-end c))

pub print_from-requires : goal.print_from-requires
unfolding blocks
print_from-requires c =
    let a = c.args in
    let pre = c.requires in
    let count = c.blocks_of-count.result in
    let list = a.blocks.now in
    let made = c.make_directory in
    let m = made.new.directory in
    let short = board_short a.sheet.now a.height a.bytes.now pre.0 in
    let few : count ≤ length list = omega (arith, c.blocks_of-count.ensures, short) in
    let size : length (take count list) ≡ blocks (length a.bytes.now) = length-take-le count list few ∙ c.blocks_of-count.ensures in
    let own = board_directory a.sheet.now a.height a.bytes.now pre.0 (length (take count list)) m size made.ensures.1 in
    let as_long : length m ≡ length (take count list) = omega arith in
    let first = take_at m (drop count list) count (as_long ∙ length-take-le count list few) in
    (on_desk a.sheet.now a.height a.bytes.now pre.0 _ _ _ _ _ _ (first ∙ own) pre.3.rows pre.3.columns pre.3.keys pre.3.corners pre.3.trail, pre.1, pre.4)

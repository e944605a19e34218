use mathlib.Core.Path.{ap, sym, ◌∙◌}
use native.Mathlib.Omega.{arith}
use lib.ListN.{length}
use Rattle.sheet.specs.Sheet.{max_sheet}
use Rattle.sheet.specs.Promise.{sheeted_of}
use Rattle.text.specs.Lines.{board_line, refused_line}
use Rattle.lines.proofs.Room.{two_words, three_words, line_short}
use Rattle.lines.proofs.Starting.{offset_in, sheet_low}
use Rattle.lines.proofs.start.first_line.Goals as goal

pub put_board-requires : goal.put_board-requires
put_board-requires c =
    let f = c.in-Ok.read in
    omega (arith, line_short (board_line f.height f.joints f.boxes) (three_words f.height f.joints f.boxes (omega arith) (omega arith) (omega arith)))

pub overflow_cast-at : goal.overflow_cast-at
unfolding max_sheet
overflow_cast-at c =
    let g = c.args in
    let refused = sym c.read.ensures.answered ∙ ap sheeted_of c.in-Err.is in
    record { fits = omega (arith, sheet_low g.sheet.now (length g.work.now) (length g.bitmap.now), ap offset_in refused) }

pub put_refused-requires : goal.put_refused-requires
unfolding max_sheet
put_refused-requires c =
    let g = c.args in
    let at = c.in-Err.at.offset in
    let refused = sym c.read.ensures.answered ∙ ap sheeted_of c.in-Err.is in
    let low = sheet_low g.sheet.now (length g.work.now) (length g.bitmap.now) in
    omega (arith, line_short (refused_line c.number.result at) (two_words c.number.result at (omega arith) (omega (arith, low, ap offset_in refused))))

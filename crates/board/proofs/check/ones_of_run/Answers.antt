-- `board::check::ones_of_run` meets its contract: a word that passes the test counts. Assumes nothing.
use native.Mathlib.Omega.{arith}
use Rattle.bitmap.proofs.Words.{marks}
use Rattle.board.proofs.Reading.{run_sound}
use Rattle.board.proofs.check.ones_of_run.Goals as goal

pub returns : goal.returns
returns c =
    let s = c in
    let e = c.word_at-word.ensures in
    let r = run_sound s.args.bytes.now s.args.group.0 _ e.1 (omega arith) (rw c.number-number.ensures at e.0) (omega arith) (unfold marks in c.if-fours-ne-MARKS.false) in
    (r.0, omega arith, r.1)

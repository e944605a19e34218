use mathlib.Core.List.{flat_map, append-nil}
use native.Mathlib.Omega.{arith}
use Rattle.text.specs.Text.{bytes_of, text_of}
use Rattle.text.specs.Lines.{no_line}
use Rattle.lines.specs.Report.{ask_lines}
use Rattle.lines.proofs.Room.{one_word, line_short}
use Rattle.lines.proofs.question.put_answer.Goals as goal

pub put_no-requires : goal.put_no-requires
put_no-requires c = omega (arith, line_short (no_line c.number.result) (one_word c.number.result (omega arith)))

pub returns-in-Ok : goal.returns-in-Ok
unfolding ask_lines
returns-in-Ok c = rw c.in-Ok.is c.put_found.ensures

pub returns-in-Err : goal.returns-in-Err
unfolding ask_lines text_of flat_map
returns-in-Err c = rw (c.in-Err.is, ← c.number.ensures, append-nil (bytes_of (no_line c.number.result))) c.put_no.ensures

use mir.Facts.{to_z-of_z}
use mir.Syntax.{w32}
use mathlib.Core.Logic.{⊎_elim}
use mathlib.Core.List.{flat_map, append-nil}
use native.Mathlib.Omega.{arith}
use Rattle.text.specs.Text.{bytes_of, text_of}
use Rattle.text.specs.Lines.{end_line}
use Rattle.lines.specs.Requests.{question_lines, request_lines}
use Rattle.text.proofs.Paging.{puts_none}
use Rattle.lines.proofs.Room.{line_short}
use Rattle.lines.proofs.Keeping.{kept}
use Rattle.lines.proofs.request.request_lines.Goals as goal

pub put_end-requires : goal.put_end-requires
put_end-requires c = omega (arith, line_short end_line (λ i. omega arith))

pub returns-in-Board : goal.returns-in-Board
unfolding request_lines text_of flat_map
returns-in-Board c = ⊎_elim (λ w. rw w.1 (puts_none c.args.page.now (omega arith), kept)) (λ w. rw w.2 (puts_none c.args.page.now (omega arith), kept)) c.in-Board.is

pub returns-in-Question : goal.returns-in-Question
unfolding request_lines question_lines
returns-in-Question c =
    let f = c.in-Question in
    let fit = f.known_told-1-own.given in
    let row = to_z-of_z {w = w32} {z = f.row} (record { sfits = fit.1.0.1 }) in
    let column = to_z-of_z {w = w32} {z = f.column} (record { sfits = fit.1.1.0.1 }) in
    (rw f.is (rw (row, column) at c.ask_lines.ensures.text), c.ask_lines.ensures.kept)

pub returns-in-Window : goal.returns-in-Window
unfolding request_lines
returns-in-Window c = (rw c.in-Window.is c.window_lines.ensures.text, c.window_lines.ensures.kept)

pub returns-in-End : goal.returns-in-End
unfolding request_lines text_of flat_map
returns-in-End c = (rw (c.in-End.is, append-nil (bytes_of end_line)) c.put_end.ensures, kept)

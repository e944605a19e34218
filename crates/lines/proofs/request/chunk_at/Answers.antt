use native.Mathlib.Omega.{arith}
use mathlib.Core.Path.{ap, sym, ◌∙◌}
use mathlib.Core.List.{flat_map}
use Rattle.refusal.specs.Numbers.{number_of}
use Rattle.records.specs.declared.kind.Stage.TheVariants.{Requests}
use Rattle.records.specs.Records.{record_at}
use Rattle.records.specs.Answers.{recorded_of}
use Rattle.sheet.proofs.Scanning.{read_parts, read_refused}
use Rattle.text.specs.Text.{text_of}
use Rattle.lines.specs.Requests.{read_lines, next_in}
use Rattle.text.proofs.Paging.{puts_none}
use Rattle.lines.proofs.Keeping.{kept}
use Rattle.lines.proofs.request.chunk_at.Goals as goal

pub returns-in-Ok : goal.returns-in-Ok
unfolding read_lines next_in
returns-in-Ok c =
    let g = c.args in
    let f = c.in-Ok in
    let parts = read_parts g.at (record_at Requests g.board.height g.sheet.now g.at) f.found.record f.found.next (sym c.record_at.ensures ∙ ap recorded_of f.is) in
    (record { text = rw parts.0 c.request_lines.ensures.0; next = rw parts.0 parts.1 }, c.request_lines.ensures.1)

pub returns-in-Err : goal.returns-in-Err
unfolding read_lines next_in text_of flat_map
returns-in-Err c =
    let g = c.args in
    let none = read_refused g.at (record_at Requests g.board.height g.sheet.now g.at) (number_of c.in-Err.field-0) (sym c.record_at.ensures ∙ ap recorded_of c.in-Err.is) in
    (record { text = rw none (puts_none g.page.now (omega arith)); next = rw none }, kept)

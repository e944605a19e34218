-- The records of a report one after the other: each read brings the next place on, and what the places say is the report.
use Prim.Native.Nat.{ℕ, zero, suc, ◌+◌, ◌≤◌, ◌<◌}
use mathlib.Core.Path.{◌≡◌, refl, ap, sym, ◌∙◌}
use mathlib.Core.List.{List, [], ◌∷◌, ◌++◌, flat_map, append-nil}
use native.Mathlib.Omega.{arith}
use lib.ListN.{length, get_or}
use borrow.Author.Tests.{lt-ltb, le-ltb}
use Rattle.refusal.proofs.Tests.{fails}
use Rattle.refusal.specs.Answer.{Answer, Served, Refused}
use Rattle.order.proofs.Total.{flat_map-append}
use Rattle.records.specs.declared.kind.Stage.TheVariants.{Requests}
use Rattle.records.specs.declared.record.Record.{Record}
use Rattle.records.specs.declared.record.Record.TheVariants.{Board, Joint, Question, Window, End}
use Rattle.records.specs.Records.{record_at, kind_in, next_after}
use Rattle.sheet.specs.Sheet.{Accepted, RefusedAt, max_records, max_bytes, height_after}
use Rattle.sheet.specs.Promise.{read_of, bitmap_in}
use Rattle.sheet.proofs.Scanning.{read_as}
use Rattle.sheet.proofs.Shape.{Stand, last, more}
use Rattle.sheet.proofs.Served.{served_board}
use Rattle.text.specs.Text.{bytes_of, text_of}
use Rattle.lines.specs.Requests.{Desk, request_lines, read_lines, next_in}
use Rattle.lines.specs.Start.{first_line}
use Rattle.lines.specs.Whole.{BoardIn, first_request, report_desk, lines_of, rest_of, report_of, chunks_from}

-- the place of the next record is farther on
pub next_on : (sheet : List ℕ) (at : ℕ) (a : Answer Record) → at < length sheet → at < next_in sheet at a
unfolding next_in
next_on sheet at (Served r) h = omega arith
next_on sheet at (Refused n) h = h

-- nothing is read at the end of a sheet
at_end : (n : ℕ) (desk : Desk) (h : ℕ) (bytes sheet : List ℕ) (at : ℕ) → length sheet ≤ at → chunks_from n desk h bytes sheet at ≡ []
unfolding chunks_from
at_end zero desk h bytes sheet at e = refl
at_end (suc n) desk h bytes sheet at e = rw (le-ltb at (length sheet) e)

-- no record has no lines
no_lines : (desk : Desk) (h : ℕ) (bytes : List ℕ) → [] ≡ text_of (flat_map (request_lines desk h bytes) [])
unfolding text_of flat_map
no_lines desk h bytes = refl

-- one record is read, and the records after it
one_read : (n : ℕ) (desk : Desk) (h : ℕ) (bytes sheet : List ℕ) (at : ℕ) (r : Record) (rs : List Record) → at < length sheet → record_at Requests h sheet at ≡ Served r
    → chunks_from n desk h bytes sheet (next_after at r) ≡ text_of (flat_map (request_lines desk h bytes) rs)
    → chunks_from (suc n) desk h bytes sheet at ≡ text_of (flat_map (request_lines desk h bytes) (r ∷ rs))
unfolding chunks_from read_lines next_in text_of flat_map
one_read n desk h bytes sheet at r rs lt e rest =
    rw (lt-ltb at (length sheet) lt, e, flat_map-append bytes_of (request_lines desk h bytes r) (flat_map (request_lines desk h bytes) rs)) (ap (λ (l : List ℕ). text_of (request_lines desk h bytes r) ++ l) rest)

-- records that stand in a sheet from a place on are read there, one after the other
pub chunks_are : (n : ℕ) (desk : Desk) (bytes sheet : List ℕ) {h at : ℕ} {rs : List Record} → Stand sheet Requests h at rs → length sheet ≤ at + n → chunks_from n desk h bytes sheet at ≡ text_of (flat_map (request_lines desk h bytes) rs)
unfolding kind_in height_after
chunks_are zero desk bytes sheet (last e f) long = absurd (omega arith)
chunks_are zero desk bytes sheet (more {h = h} {at = at} r go e rest) long = absurd (omega (arith, (read_as Requests h sheet at r e).long))
chunks_are (suc n) desk bytes sheet (last {h = h} {at = at} e f) long =
    one_read n desk h bytes sheet at End [] (omega arith) e (at_end n desk h bytes sheet (next_after at End) (omega arith) ∙ no_lines desk h bytes)
chunks_are (suc n) desk bytes sheet (more {h = h} {at = at} (Board k) go e rest) long = fails (read_as Requests h sheet at (Board k) e).stands
chunks_are (suc n) desk bytes sheet (more {h = h} {at = at} (Joint r c) go e rest) long = fails (read_as Requests h sheet at (Joint r c) e).stands
chunks_are (suc n) desk bytes sheet (more {h = h} {at = at} {rs = rs} (Question k r c) go e rest) long =
    one_read n desk h bytes sheet at (Question k r c) rs (omega (arith, (read_as Requests h sheet at (Question k r c) e).long)) e (chunks_are n desk bytes sheet rest (omega arith))
chunks_are (suc n) desk bytes sheet (more {h = h} {at = at} {rs = rs} (Window a b c d) go e rest) long =
    one_read n desk h bytes sheet at (Window a b c d) rs (omega (arith, (read_as Requests h sheet at (Window a b c d) e).long)) e (chunks_are n desk bytes sheet rest (omega arith))
chunks_are (suc n) desk bytes sheet (more End go e rest) long = fails (sym go)

-- the report of a sheet that is served: its first line, then what is read from its first record after the joints on, one record after the other
pub report_chunks : (sheet : List ℕ) (height : ℕ) (bytes : List ℕ) → BoardIn sheet height bytes
    → text_of (report_of sheet) ≡ bytes_of (first_line (read_of sheet max_records max_bytes)) ++ chunks_from (length sheet) (report_desk bytes) height bytes sheet (first_request sheet)
unfolding report_of rest_of lines_of text_of flat_map
report_chunks sheet height bytes b =
    served_board sheet max_records max_bytes b.served b.reads λ rs known.
    let board = bitmap_in (Accepted rs) in
    let read = chunks_are (length sheet) (report_desk board) board sheet known.shaped.requests (omega arith) in
    let high = b.high ∙ sym (ap (λ (vs : List ℕ). get_or vs 0 0) known.numbers) in
    let there = sym (ap (λ (vs : List ℕ). get_or vs 4 0) known.numbers) in
    rw (b.bitmap, b.reads, known.accepted, high, there) (ap (λ (l : List ℕ). bytes_of (first_line (Accepted b.served)) ++ l) (sym read))

-- and of one that is refused: its one line
pub report_refused : (sheet : List ℕ) (n o : ℕ) → read_of sheet max_records max_bytes ≡ RefusedAt n o → text_of (report_of sheet) ≡ bytes_of (first_line (read_of sheet max_records max_bytes))
unfolding report_of rest_of text_of flat_map
report_refused sheet n o e = rw (e, append-nil (bytes_of (first_line (RefusedAt n o))))

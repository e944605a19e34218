-- The lines of a record that asks something, and of the record at a place of a sheet.
use Rattle.std.specs.Prelude.{ℕ, ◌≡◌, List, [], ◌∷◌, length}
use Rattle.refusal.specs.Answer.{Answer, Served, Refused}
use Rattle.window.specs.Window.{ends, found, window_of}
use Rattle.search.specs.Question.{answer_keys, trail}
use Rattle.keys.specs.declared.distance.Place.{Place}
use Rattle.keys.specs.Places.{place_of}
use Rattle.nearest.specs.Promise.{Rooms, nearest_of}
use Rattle.records.specs.declared.record.Record.{Record}
use Rattle.records.specs.declared.record.Record.TheVariants.{Board, Joint, Question, Window, End}
use Rattle.records.specs.declared.kind.Stage.TheVariants.{Requests}
use Rattle.records.specs.Records.{record_at, next_after}
use Rattle.lines.specs.declared.lists.Lists.{Lists}
use Rattle.lines.specs.declared.request.Chunk.{Chunk}
use Rattle.text.specs.declared.page.Page.{Page}
use Rattle.text.specs.Text.{Line, text_of, Put}
use Rattle.text.specs.Page.{Puts}
use Rattle.text.specs.Lines.{end_line}
use Rattle.lines.specs.Limits.{max_answers}
use Rattle.lines.specs.Report.{window_lines, ask_lines}

-- what a board is asked with: its directory, and places for a window's rows and columns and for a question's lists
pub record Desk : Type 0 where
  pub directory : List ℕ
  pub rows : ℕ
  pub columns : ℕ
  pub rooms : Rooms

-- the desk of lent lists
abbrev pub desk_of : List ℕ → List ℕ → List ℕ → List ℕ → List ℕ → List ℕ → Desk
desk_of directory rows columns keys corners trail = record {
  directory = directory;
  rows = length rows;
  columns = length columns;
  rooms = record { answers = max_answers; keys = length keys; corners = length corners; trail = length trail };
}

abbrev pub desk_with : List ℕ → Lists → Desk
desk_with directory lists = desk_of directory lists.rows.now lists.columns.now lists.keys.now lists.corners.now lists.trail.now

-- a question's lines
unfoldable pub question_lines : Desk → ℕ → List ℕ → ℕ → Place → List Line
question_lines desk h bytes k p = ask_lines (nearest_of h bytes desk.directory p k desk.rooms) k (answer_keys (place_of p) h bytes k) (trail (place_of p) h bytes k)

-- a record's lines, on a board of height h: a question, a window and the end have some
unfoldable pub request_lines : Desk → ℕ → List ℕ → Record → List Line
request_lines desk h bytes (Board k) = []
request_lines desk h bytes (Joint r c) = []
request_lines desk h bytes (Question k row column) = question_lines desk h bytes k (record { row = row; column = column })
request_lines desk h bytes (Window top bottom left right) =
    window_lines (window_of h bytes desk.directory (ends top bottom left right) desk.rows desk.columns) (found (ends top bottom left right) h bytes)
request_lines desk h bytes End = end_line ∷ []

-- the lines of what is read at a place, and the place of the next record; no lines, and no next record, where nothing can be read
unfoldable pub read_lines : Desk → ℕ → List ℕ → Answer Record → List Line
read_lines desk h bytes (Served r) = request_lines desk h bytes r
read_lines desk h bytes (Refused n) = []

unfoldable pub next_in : List ℕ → ℕ → Answer Record → ℕ
next_in sheet at (Served r) = next_after at r
next_in sheet at (Refused n) = length sheet

-- the lines of the record at a place are put on a page, and this is the place of the next
pub record PageChunked (desk : Desk) (h : ℕ) (bytes sheet : List ℕ) (at : ℕ) (page page' : Page) (r : ℕ) : Type 0 where
  pub text : Puts (text_of (read_lines desk h bytes (record_at Requests h sheet at))) page page'
  pub next : r ≡ next_in sheet at (record_at Requests h sheet at)

-- the lines of the record at a place are put at the beginning of a list
pub record Chunked (desk : Desk) (h : ℕ) (bytes sheet : List ℕ) (at : ℕ) (out : List ℕ) (r : Chunk) (out' : List ℕ) : Type 0 where
  pub text : Put (text_of (read_lines desk h bytes (record_at Requests h sheet at))) 0 out r.length out'
  pub next : r.next ≡ next_in sheet at (record_at Requests h sheet at)

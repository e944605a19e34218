-- The report of a sheet, as a definition on its bytes; and the same as a program writes it, place by place.
use Rattle.std.specs.Prelude.{ℕ, zero, suc, cond, ◌≡◌, length, get_or, ltb}
use mathlib.Core.List.{List, [], ◌∷◌, ◌++◌, flat_map}
use Rattle.bitmap.specs.Directory.{directory_of}
use Rattle.board.specs.declared.Board.{Board}
use Rattle.board.specs.Limits.{max_joints}
use Rattle.records.specs.declared.kind.Stage.TheVariants.{Requests}
use Rattle.records.specs.declared.record.Record.{Record}
use Rattle.records.specs.Records.{record_at}
use Rattle.sheet.specs.Sheet.{Verdict, Accepted, RefusedAt, max_records, max_bytes, sheet_of, height_in, requests_in}
use Rattle.sheet.specs.Promise.{read_of, bitmap_in}
use Rattle.text.specs.Text.{Line, text_of}
use Rattle.lines.specs.declared.lists.Lists.{Lists}
use Rattle.lines.specs.Limits.{max_answers, max_trail}
use Rattle.lines.specs.Requests.{Desk, desk_of, request_lines, read_lines, next_in}
use Rattle.lines.specs.Start.{first_line, told_of}

-- the started blocks of 64 bytes of the largest bitmap
abbrev pub max_blocks : ℕ
max_blocks = 139

-- what the program asks a board with: the board's own directory, and room for every answer but the longest trails
abbrev pub report_desk : List ℕ → Desk
report_desk bytes = record {
  directory = directory_of bytes;
  rows = max_joints;
  columns = max_joints;
  rooms = record { answers = max_answers; keys = max_joints; corners = max_joints; trail = max_trail };
}

-- lists as long as the program's
pub record RoomyLists (lists : Lists) : Type 0 where
  pub rows : length lists.rows.now ≡ max_joints
  pub columns : length lists.columns.now ≡ max_joints
  pub keys : length lists.keys.now ≡ max_joints
  pub corners : length lists.corners.now ≡ max_joints
  pub trail : length lists.trail.now ≡ max_trail

-- the board of a sheet that is served with the program's room, and the bytes of its bitmap
pub record BoardIn (sheet : List ℕ) (height : ℕ) (bytes : List ℕ) : Type 0 where
  pub served : List ℕ
  pub reads : read_of sheet max_records max_bytes ≡ Accepted served
  pub high : height ≡ get_or served 0 0
  pub bitmap : bytes ≡ bitmap_in (sheet_of sheet)

-- that board on the program's desk
pub record OnDesk (sheet : List ℕ) (height : ℕ) (bytes directory rows columns keys corners trail : List ℕ) : Type 0 where
  pub board : BoardIn sheet height bytes
  pub desk : desk_of directory rows columns keys corners trail ≡ report_desk bytes

abbrev pub Laid : List ℕ → Board → Lists → Type 0
Laid sheet board lists =
    OnDesk sheet board.height board.bytes.now board.directory.now lists.rows.now lists.columns.now lists.keys.now lists.corners.now lists.trail.now

-- the offset of its first record after the joints
abbrev pub first_request : List ℕ → ℕ
first_request sheet = get_or (told_of (read_of sheet max_records max_bytes)) 2 0

-- the lines of records on a board, in the order of the sheet
unfoldable pub lines_of : ℕ → List ℕ → List Record → List Line
lines_of h bytes rs = flat_map (request_lines (report_desk bytes) h bytes) rs

-- the lines after the first: none where the sheet is refused
unfoldable pub rest_of : Verdict (List ℕ) → Verdict (List Record) → List Line
rest_of (Accepted served) (Accepted rs) = lines_of (height_in 0 rs) (bitmap_in (Accepted rs)) (requests_in rs)
rest_of (Accepted served) (RefusedAt n at) = []
rest_of (RefusedAt n at) v = []

-- the report
unfoldable pub report_of : List ℕ → List Line
report_of sheet = first_line (read_of sheet max_records max_bytes) ∷ rest_of (read_of sheet max_records max_bytes) (sheet_of sheet)

-- the bytes of the records from a place on, n at the most, each read where the one before it ends
unfoldable pub chunks_from : ℕ → Desk → ℕ → List ℕ → List ℕ → ℕ → List ℕ
chunks_from zero desk h bytes sheet at = []
chunks_from (suc n) desk h bytes sheet at =
    cond (ltb at (length sheet))
    (text_of (read_lines desk h bytes (record_at Requests h sheet at)) ++ chunks_from n desk h bytes sheet (next_in sheet at (record_at Requests h sheet at)))
    []

-- The records of a joint sheet: what each body says, and the tests of a record in their order.
use Rattle.std.specs.Prelude.{ℕ, ◌+◌, ◌&&◌, List, ℤ, length, get_or, take, drop, leb}
use Rattle.refusal.specs.Answer.{Answer, Served, Refused, ◌unless◌, ◌then◌, ◌into◌}
use Rattle.measure.specs.Measure.{read_of, read_marked_of}
use Rattle.board.specs.Limits.{max_height}
use Rattle.board.specs.Member.{on_board}
use Rattle.records.specs.declared.kind.Kind.{Kind}
use Rattle.records.specs.declared.kind.Kind.TheVariants.{Board, Joint, Question, Window, End}
use Rattle.records.specs.declared.kind.Stage.{Stage}
use Rattle.records.specs.declared.record.Record.{Record}
use Rattle.records.specs.declared.record.Record.TheVariants.{Board as BoardOf, Joint as JointAt, Question as Ask, Window as Within, End as Ended}
use Rattle.records.specs.Kinds.{kind_of, body_length, in_place}

-- the measure at a place of a body, and the marked one
abbrev pub measure_at : List ℕ → ℕ → Answer ℕ
measure_at body at = read_of (take 5 (drop at body))

abbrev pub marked_at : List ℕ → ℕ → Answer ℤ
marked_at body at = read_marked_of (take 6 (drop at body))

-- two measures, one after the other
abbrev pub pair_at : List ℕ → ℕ → Answer (ℕ × ℕ)
pair_at body at = measure_at body at into λ first. measure_at body (at + 5) into λ second. Served (first, second)

-- what a body says, on a board of height h: 1, or 13 from the left, and for a joint 12
unfoldable pub body_of : ℕ → Kind → List ℕ → Answer Record
body_of h Board body = 1 unless (leb 1 (get_or body 0 0) && leb (get_or body 0 0) max_height) then Served (BoardOf (get_or body 0 0))
body_of h Joint body = measure_at body 0 into λ row. measure_at body 5 into λ column. 12 unless on_board h row column then Served (JointAt row column)
body_of h Question body = marked_at body 1 into λ row. marked_at body 7 into λ column. Served (Ask (get_or body 0 0) row column)
body_of h Window body = measure_at body 0 into λ top. measure_at body 5 into λ bottom. measure_at body 10 into λ left. measure_at body 15 into λ right. Served (Within top bottom left right)
body_of h End body = Served Ended

-- the record at a place of a sheet that has come so far, on a board of height h: 14, 15, 16, then what its body says
unfoldable pub record_at : Stage → ℕ → List ℕ → ℕ → Answer Record
record_at stage h sheet at =
    kind_of (get_or sheet at 0) into λ kind. 15 unless in_place stage kind then 16 unless leb (at + 1 + body_length kind) (length sheet) then body_of h kind (drop (at + 1) sheet)

-- the kind of a record
unfoldable pub kind_in : Record → Kind
kind_in (BoardOf h) = Board
kind_in (JointAt r c) = Joint
kind_in (Ask k r c) = Question
kind_in (Within a b c d) = Window
kind_in Ended = End

-- the offset after a record
abbrev pub next_after : ℕ → Record → ℕ
next_after at r = at + 1 + body_length (kind_in r)

-- a record with the offset after it
abbrev pub with_next : ℕ → Answer Record → Answer (Record × ℕ)
with_next at (Served r) = Served (r, next_after at r)
with_next at (Refused n) = Refused n

-- The kinds of record: one byte of kind, then a body whose length the kind fixes; and where each may stand.
use Rattle.std.specs.Prelude.{ℕ, Bool, true, false, not, cond, ◌&&◌, eqb}
use Rattle.refusal.specs.Answer.{Answer, Served, Refused}
use Rattle.records.specs.declared.kind.Kind.{Kind}
use Rattle.records.specs.declared.kind.Kind.TheVariants.{Board, Joint, Question, Window, End}
use Rattle.records.specs.declared.kind.Stage.{Stage}
use Rattle.records.specs.declared.kind.Stage.TheVariants.{Start, Joints, Requests}

-- the kind of a byte; any other byte is 14
unfoldable pub kind_of : ℕ → Answer Kind
kind_of b =
    cond (eqb b 1) (Served Board)
    (cond (eqb b 2) (Served Joint)
    (cond (eqb b 3) (Served Question)
    (cond (eqb b 4) (Served Window)
    (cond (eqb b 5) (Served End) (Refused 14)))))

-- the bytes of its body
abbrev pub body_length : Kind → ℕ
body_length Board = 1
body_length Joint = 10
body_length Question = 13
body_length Window = 20
body_length End = 0

abbrev pub is_board : Kind → Bool
is_board Board = true
is_board Joint = false
is_board Question = false
is_board Window = false
is_board End = false

abbrev pub is_joint : Kind → Bool
is_joint Board = false
is_joint Joint = true
is_joint Question = false
is_joint Window = false
is_joint End = false

-- kind 1 stands first, once; then joints; then questions and windows in any mix; then the end
abbrev pub in_place : Stage → Kind → Bool
in_place Start kind = is_board kind
in_place Joints kind = not (is_board kind)
in_place Requests kind = not (is_board kind) && not (is_joint kind)

-- how far a sheet has come after a record
abbrev pub stage_after : Kind → Stage
stage_after Board = Joints
stage_after Joint = Joints
stage_after Question = Requests
stage_after Window = Requests
stage_after End = Requests

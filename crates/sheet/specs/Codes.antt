-- For the functions inside: the codes of a sheet's joints, by where the joint records stand.
use Rattle.std.specs.Prelude.{ℕ, zero, suc, List, [], ◌∷◌, ◌++◌}
use Rattle.refusal.specs.Answer.{Answer, Served, Refused}
use Rattle.board.specs.Code.{code}
use Rattle.records.specs.declared.kind.Stage.TheVariants.{Joints}
use Rattle.records.specs.declared.record.Record.{Record}
use Rattle.records.specs.declared.record.Record.TheVariants.{Board, Joint, Question, Window, End}
use Rattle.records.specs.Records.{record_at}
use Rattle.sheet.specs.Sheet.{joint_offset}

-- the code of a joint's cell; another record has none
abbrev pub code_in : ℕ → Record → ℕ
code_in h (Board k) = 0
code_in h (Joint r c) = code h r c
code_in h (Question k r c) = 0
code_in h (Window a b c d) = 0
code_in h End = 0

-- the same of what is read
abbrev pub code_read : ℕ → Answer Record → ℕ
code_read h (Served r) = code_in h r
code_read h (Refused n) = 0

-- the code of the joint at an offset
unfoldable pub code_at : ℕ → List ℕ → ℕ → ℕ
code_at h sheet at = code_read h (record_at Joints h sheet at)

-- the codes of the first n joints
unfoldable pub codes_at : ℕ → List ℕ → ℕ → List ℕ
codes_at h sheet zero = []
codes_at h sheet (suc n) = codes_at h sheet n ++ code_at h sheet (joint_offset n) ∷ []

-- What reading a record answers, in document 01's numbers.
use Rattle.std.specs.Prelude.{ℕ, Result}
use Rattle.refusal.specs.declared.Refusal.{Refusal}
use Rattle.refusal.specs.Answer.{Answer}
use Rattle.refusal.specs.Results.{answer_by}
use Rattle.records.specs.declared.record.Record.{Record}
use Rattle.records.specs.declared.record.Recorded.{Recorded}

-- a record and the offset of the next
abbrev pub recorded_of : Result Recorded Refusal → Answer (Record × ℕ)
recorded_of = answer_by (λ (read : Recorded). (read.record, read.next))

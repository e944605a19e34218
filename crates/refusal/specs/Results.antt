-- What a call returns, as an answer in the paper's numbers.
use Rattle.std.specs.Prelude.{Result, Ok, Err}
use Rattle.refusal.specs.declared.Refusal.{Refusal}
use Rattle.refusal.specs.Numbers.{number_of}
use Rattle.refusal.specs.Answer.{Answer, Served, Refused}

-- served with what is returned, or refused by the refusal's number
abbrev pub answer_of : {A : Type 0} → Result A Refusal → Answer A
answer_of (Ok x) = Served x
answer_of (Err refusal) = Refused (number_of refusal)

-- the same of what is said in other words
abbrev pub answer_by : {A B : Type 0} → (A → B) → Result A Refusal → Answer B
answer_by say (Ok x) = Served (say x)
answer_by say (Err refusal) = Refused (number_of refusal)

-- The loop keeps that the records of the places before `at` are put.
use mathlib.Core.List.{map}
use lib.ListN.{get_or}
use Rattle.seek.specs.Step.{handed_in}
use Rattle.nearest.specs.Answers.{zero_answer, answer_of}
use Rattle.nearest.proofs.Answering.{Put}
use Rattle.nearest.proofs.answer.deliver.Given as goal

abbrev pub invariant-loop-at : goal.invariant-loop-at
invariant-loop-at l = Put (λ k. get_or (map answer_of (handed_in l.n l.keys)) k zero_answer) l.at l.initial.list l.list

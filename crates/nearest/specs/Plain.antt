-- What a served question leaves, without keys: the first K joints in the answer list and the boxes opened for them in the trail list. proofs/Plain.antt
-- has it of every served question.
use Rattle.std.specs.Prelude.{ℕ, ◌-◌, ◌≡◌, List, map, length, take, drop, replicate}
use Rattle.search.specs.Near.{Place}
use Rattle.search.specs.Plain.{Joint, FirstJoints, Trail}
use Rattle.nearest.specs.declared.answer.Answer.{Answer}
use Rattle.nearest.specs.Answers.{zero_answer}
use Rattle.nearest.specs.Kept.{Lent}

-- a record of the answer list
abbrev pub joint_of : Answer → Joint
joint_of a = record { row = a.row; column = a.column; distance = a.distance }

-- found joints and opened boxes, so many, as document 01 says of them, and zeros after both
pub record Plainly (h : ℕ) (bytes : List ℕ) (p : Place) (k found opened : ℕ) (was is : Lent) : Type 0 where
  pub first_joints : FirstJoints p h bytes k (map joint_of (take found is.answers))
  pub trail : Trail p h bytes k (map joint_of (take found is.answers)) (take opened is.trail)
  pub answers_after : drop found is.answers ≡ replicate (length was.answers - found) zero_answer
  pub trail_after : drop opened is.trail ≡ replicate (length was.trail - opened) 0

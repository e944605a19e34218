-- The answer list: one record for each joint, and records of zeros after them.
use Rattle.std.specs.Prelude.{ℕ, suc, ◌-◌, ◌^◌, ◌≤◌, ◌<◌, List, ◌++◌, map, length, get_or, replicate}
use Rattle.search.specs.Keys.{row_of, col_of, distance_of}
use Rattle.nearest.specs.declared.answer.Answer.{Answer}

-- no joint
abbrev pub zero_answer : Answer
zero_answer = record { row = 0; column = 0; distance = 0 }

-- a joint by its key: row, column and squared distance
abbrev pub answer_of : ℕ → Answer
answer_of key = record { row = row_of key; column = col_of key; distance = distance_of key }

-- what is left in a list of n places: the joints found, then zeros
unfoldable pub filled : List ℕ → ℕ → List Answer
filled found n = map answer_of found ++ replicate (n - length found) zero_answer

-- of the keys handed out, each has a distance that a record holds
pub record Handed (n : ℕ) (keys : List ℕ) : Type 0 where
  pub room : n ≤ length keys
  pub small : (i : ℕ) → i < n → distance_of (get_or keys (length keys - suc i) 0) < 2 ^ 32

-- What is said of a search beside its promise: what is pending has room.
use Prim.Native.Nat.{ℕ, ◌+◌, ◌≤◌, max}
use mathlib.Core.List.{List}
use Rattle.search.specs.Near.{Place}
use Rattle.seek.specs.declared.step.Tally.{Tally}
use Rattle.seek.specs.Step.{Searching}
use Rattle.seek.proofs.Steps.{pending_within}

-- at each step of a search, what is pending and what is handed out are never more than the joints, and one on an empty board
pub pending_has_room : {p : Place} {bytes d : List ℕ} {t : Tally} {keys corners : List ℕ} (s : Searching p bytes d t keys corners) → t.pending + t.handed ≤ max 1 s.joints
pending_has_room s = pending_within s

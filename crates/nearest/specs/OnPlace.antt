-- A place of a round: a question on a board that was checked before.
use Rattle.std.specs.Prelude.{ℕ, ◌<◌, Bool, ◌&&◌, ◌≡◌, List, length, leb}
use Rattle.refusal.specs.Answer.{Answer, ◌unless◌, ◌then◌}
use Rattle.board.specs.Levels as board
use Rattle.board.specs.Ready.{Ready}
use Rattle.keys.specs.declared.distance.Place.{Place}
use Rattle.keys.specs.Places.{in_range}
use Rattle.seek.specs.Told.{searched_of}
use Rattle.nearest.specs.Promise.{Rooms, work_for}

-- its tests, where each work list must have so many places: 7, 10
abbrev pub place_room : Place → ℕ → ℕ → ℕ → Answer Bool
place_room p work keys corners =
    7 unless in_range p
    then 10 unless (leb work keys && leb work corners)

-- its answer: 7, 10, 11, or the joints found and the boxes opened
unfoldable pub on_place : ℕ → List ℕ → Place → ℕ → Rooms → Answer (List ℕ)
on_place h bytes p k r =
    place_room p (work_for h bytes) r.keys r.corners
    then searched_of h bytes p k r.trail

-- the board was checked before, and so many joints are on it; a joint is wanted
pub record Checked (h : ℕ) (bytes d : List ℕ) (joints k : ℕ) : Type 0 where
  pub ready : Ready h bytes d
  pub counted : joints ≡ length (board.joints h bytes)
  pub some : 0 < k

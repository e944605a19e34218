-- A board with its directory: the answers of the two that check both, and when a board may be asked.
use Rattle.std.specs.Prelude.{ℕ, ◌≤◌, ◌≡◌, List, length, eqb}
use Rattle.refusal.specs.Answer.{Answer, ◌unless◌, ◌then◌}
use Rattle.bitmap.specs.Directory.{blocks, directory_of, alike}
use Rattle.board.specs.Limits.{max_height, max_joints}
use Rattle.board.specs.Levels.{joints}
use Rattle.board.specs.Check.{check_of}
use Rattle.board.specs.Valid.{Valid}

-- a directory that is given to be read: the check, then 6 for a wrong length or a wrong entry
unfoldable pub asked_of : ℕ → List ℕ → List ℕ → Answer (List ℕ)
asked_of h bytes d =
    check_of h bytes
    then 6 unless alike d (directory_of bytes)
    then check_of h bytes

-- the directory maker, with a list of n places: the check, then 6 for a wrong length
unfoldable pub made_of : ℕ → List ℕ → ℕ → Answer (List ℕ)
made_of h bytes n =
    check_of h bytes
    then 6 unless eqb n (blocks (length bytes))
    then check_of h bytes

-- the board is valid and not too large, and the directory is its own
pub record Ready (h : ℕ) (bytes directory : List ℕ) : Type 0 where
  pub valid : Valid h bytes
  pub low : h ≤ max_height
  pub few : length (joints h bytes) ≤ max_joints
  pub ranked : directory ≡ directory_of bytes

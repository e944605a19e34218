-- The board of a sheet on the program's desk.
use Prim.Native.Nat.{ℕ, ◌≤◌}
use mathlib.Core.Path.{◌≡◌, sym, ap, ◌∙◌}
use mathlib.Core.List.{List, [], ◌∷◌}
use lib.ListN.{length, get_or}
use borrow.Author.Tests.{eq-eqb}
use Rattle.refusal.specs.Answer.{Served, left_in}
use Rattle.refusal.proofs.Answers.{left_served}
use Rattle.bitmap.specs.Directory.{blocks, directory_of}
use Rattle.bitmap.proofs.Directory.{length_directory}
use Rattle.board.specs.Limits.{max_height, max_joints}
use Rattle.board.specs.Check.{check_of}
use Rattle.board.specs.Ready.{made_of}
use Rattle.sheet.specs.Sheet.{max_records, max_bytes}
use Rattle.sheet.specs.Promise.{bitmap_in}
use Rattle.sheet.proofs.Served.{served_board}
use Rattle.lines.specs.Limits.{max_trail}
use Rattle.lines.specs.Requests.{Desk}
use Rattle.lines.specs.Whole.{BoardIn, OnDesk}

-- what is known of the board: its height is served, its bytes have room, and the check serves it
record Known (height : ℕ) (bytes : List ℕ) : Type 0 where
  low : height ≤ max_height
  short : length bytes ≤ max_bytes
  checked : (j : ℕ) × (g : ℕ) × (check_of height bytes ≡ Served (j ∷ g ∷ []))

board_known : (sheet : List ℕ) (height : ℕ) (bytes : List ℕ) → BoardIn sheet height bytes → Known height bytes
unfolding bitmap_in
board_known sheet height bytes b =
    served_board sheet max_records max_bytes b.served b.reads λ rs known.
    let high = b.high ∙ sym (ap (λ (vs : List ℕ). get_or vs 0 0) known.numbers) in
    rw (b.bitmap, known.accepted, high) (record { low = known.shaped.low; short = known.fits; checked = (_, _, known.checked) })

module _ (sheet : List ℕ) (height : ℕ) (bytes : List ℕ) (b : BoardIn sheet height bytes) where
  pub board_low : height ≤ max_height
  board_low = (board_known sheet height bytes b).low

  pub board_short : length bytes ≤ max_bytes
  board_short = (board_known sheet height bytes b).short

  -- the directory that is made for it is its own
  pub board_directory : (n : ℕ) (m : List ℕ) → n ≡ blocks (length bytes) → m ≡ left_in (made_of height bytes n) (directory_of bytes) n → m ≡ directory_of bytes
  unfolding made_of
  board_directory n m size e =
      let known = (board_known sheet height bytes b).checked in
      let served : Served (known.0 ∷ known.1 ∷ []) ≡ made_of height bytes n = rw (known.2, eq-eqb n (blocks (length bytes)) size) in
      e ∙ sym (left_served (made_of height bytes n) (directory_of bytes) n served (size ∙ sym (length_directory bytes)))

  -- lists of the program's lengths, with the directory, are its desk
  pub on_desk : (directory rows columns keys corners trail : List ℕ) → directory ≡ directory_of bytes → length rows ≡ max_joints → length columns ≡ max_joints → length keys ≡ max_joints → length corners ≡ max_joints → length trail ≡ max_trail
      → OnDesk sheet height bytes directory rows columns keys corners trail
  on_desk directory rows columns keys corners trail d r c k o t = record { board = b; desk = rw (d, r, c, k, o, t) }

module _ (sheet : List ℕ) (height : ℕ) (bytes directory rows columns keys corners trail : List ℕ) (desk : OnDesk sheet height bytes directory rows columns keys corners trail) where
  -- its lists have these lengths
  pub desk_rows : length rows ≡ max_joints
  desk_rows = ap (λ (d : Desk). d.rows) desk.desk

  pub desk_trail : length trail ≡ max_trail
  desk_trail = ap (λ (d : Desk). d.rooms.trail) desk.desk

  -- and lists of the same lengths are on it too
  pub desk_again : (rows' columns' keys' corners' trail' : List ℕ) → length rows' ≡ length rows → length columns' ≡ length columns → length keys' ≡ length keys → length corners' ≡ length corners → length trail' ≡ length trail
      → OnDesk sheet height bytes directory rows' columns' keys' corners' trail'
  desk_again rows' columns' keys' corners' trail' r c k o t = record { board = desk.board; desk = rw (r, c, k, o, t) desk.desk }

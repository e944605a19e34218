-- What reading a sheet is worth: a valid board, and the room that is always enough.
use Prim.Native.Nat.{ℕ, ◌≤◌, ◌<◌}
use mathlib.Core.Path.{◌≡◌}
use mathlib.Core.List.{List, [], ◌∷◌, map}
use native.Mathlib.Omega.{arith}
use lib.ListN.{length}
use borrow.Author.Tests.{le-leb, lt-leb}
use Rattle.board.specs.Limits.{max_joints}
use Rattle.board.specs.Levels.{joints, groups}
use Rattle.board.specs.Code.{code_of}
use Rattle.board.specs.Valid.{Valid}
use Rattle.board.proofs.Codes.{decode}
use Rattle.build.specs.Build.{once_each, set_of, bitmap_of_codes, bitmap_of}
use Rattle.build.specs.Answers.{codes_built_of}
use Rattle.build.proofs.Theorems.{built_valid, built_joints, built_fits}
use Rattle.records.specs.declared.record.Record.{Record}
use Rattle.sheet.specs.Sheet.{Accepted, RefusedAt, max_sheet, max_records, max_bytes, sheet_of, height_in, cells_in, after_joints}
use Rattle.sheet.specs.Promise.{board_of, read_of, bitmap_in}
use Rattle.sheet.proofs.Shape.{sheet_shape}

module _ (sheet : List ℕ) (rs : List Record) (e : sheet_of sheet ≡ Accepted rs) where
  -- an accepted sheet has at most 5,957 joint records
  pub joint_records : length (cells_in rs) ≤ max_records
  unfolding max_sheet
  joint_records = let s = sheet_shape sheet rs e in omega (arith, s.short, s.long)

  -- its bitmap is valid, and its joints are the cells of the sheet's joint records, once each in bitmap order
  pub board_valid : Valid (height_in 0 rs) (bitmap_in (sheet_of sheet))
  unfolding bitmap_in
  board_valid = rw e (built_valid (height_in 0 rs) (cells_in rs) (sheet_shape sheet rs e).high)

  pub board_joints : joints (height_in 0 rs) (bitmap_in (sheet_of sheet)) ≡ map (decode (height_in 0 rs)) (set_of (height_in 0 rs) (cells_in rs))
  unfolding bitmap_in
  board_joints = rw e (built_joints (height_in 0 rs) (cells_in rs) (sheet_shape sheet rs e).high)

  -- with room for 5,957 codes and 8,875 bytes neither 10 nor 18 is given: it is refused by 5 alone
  pub room_enough : (work room : ℕ) → max_records ≤ work → max_bytes ≤ room → length (set_of (height_in 0 rs) (cells_in rs)) ≤ max_joints
      → read_of sheet work room ≡ Accepted (height_in 0 rs ∷ length (set_of (height_in 0 rs) (cells_in rs)) ∷ groups (height_in 0 rs) (bitmap_in (sheet_of sheet)) ∷ length (bitmap_in (sheet_of sheet)) ∷ after_joints rs ∷ [])
  unfolding read_of board_of codes_built_of bitmap_in bitmap_of set_of
  room_enough work room wide long few =
      let s = sheet_shape sheet rs e in
      rw (
        e,
        le-leb (length (cells_in rs)) work (omega (arith, joint_records)),
        le-leb (length (once_each (map (code_of (height_in 0 rs)) (cells_in rs)))) max_joints few,
        le-leb (length (bitmap_of_codes (height_in 0 rs) (map (code_of (height_in 0 rs)) (cells_in rs)))) room (omega (arith, built_fits (height_in 0 rs) (cells_in rs) s.high s.low few)),
      )

  -- more than 4,096 distinct joints are 5 at offset 0, wherever there is work room
  pub too_many : (work room : ℕ) → length (cells_in rs) ≤ work → max_joints < length (set_of (height_in 0 rs) (cells_in rs)) → read_of sheet work room ≡ RefusedAt 5 0
  unfolding read_of board_of codes_built_of set_of
  too_many work room wide many =
      rw (
        e,
        le-leb (length (cells_in rs)) work wide,
        lt-leb (length (once_each (map (code_of (height_in 0 rs)) (cells_in rs)))) max_joints many,
      )

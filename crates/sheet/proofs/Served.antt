-- A sheet that is served, for those who go on with its board and its requests.
use Prim.Native.Nat.{ℕ, ◌≤◌}
use mathlib.Core.Path.{◌≡◌}
use mathlib.Core.List.{List, [], ◌∷◌, map}
use lib.ListN.{length}
use lib.Dec.{leb}
use borrow.Author.Tests.{leb-true}
use Rattle.refusal.specs.Answer.{Served, ◌unless◌}
use Rattle.refusal.proofs.Answers.{passed}
use Rattle.board.specs.Limits.{max_joints}
use Rattle.board.specs.Levels.{groups}
use Rattle.board.specs.Code.{code_of}
use Rattle.board.specs.Check.{check_of}
use Rattle.build.specs.Build.{once_each, set_of, bitmap_of_codes, bitmap_of}
use Rattle.build.specs.Answers.{codes_built_of}
use Rattle.build.proofs.Theorems.{built_checks}
use Rattle.records.specs.declared.record.Record.{Record}
use Rattle.sheet.specs.Sheet.{Accepted, offset, sheet_of, height_in, cells_in, after_joints}
use Rattle.sheet.specs.Promise.{board_of, read_of}
use Rattle.sheet.proofs.Shape.{Shaped, sheet_shape, went_onward, was_served}

-- the numbers of records: the height, the distinct joints, the boxes, the bitmap's length, the offset of the first record after the joints
abbrev numbers_in : List Record → List ℕ
numbers_in rs =
    let h = height_in 0 rs in
    h ∷ length (set_of h (cells_in rs)) ∷ groups h (bitmap_of h (cells_in rs)) ∷ length (bitmap_of h (cells_in rs)) ∷ after_joints rs ∷ []

-- what is known of a sheet that is served, with room for so many bytes
pub record ServedBoard (sheet : List ℕ) (rs : List Record) (room : ℕ) (served : List ℕ) : Type 0 where
  pub accepted : sheet_of sheet ≡ Accepted rs
  pub shaped : Shaped sheet rs
  pub numbers : numbers_in rs ≡ served
  pub fits : length (bitmap_of (height_in 0 rs) (cells_in rs)) ≤ room
  pub checked : check_of (height_in 0 rs) (bitmap_of (height_in 0 rs) (cells_in rs)) ≡ Served (length (set_of (height_in 0 rs) (cells_in rs)) ∷ groups (height_in 0 rs) (bitmap_of (height_in 0 rs) (cells_in rs)) ∷ [])

-- the numbers of a board that is built, within the bounds
built_numbers : (h : ℕ) (codes : List ℕ) (room : ℕ) (built : List ℕ) → codes_built_of h codes room ≡ Served built
    → (length (once_each codes) ≤ max_joints) × (length (bitmap_of_codes h codes) ≤ room) × (length (once_each codes) ∷ groups h (bitmap_of_codes h codes) ∷ length (bitmap_of_codes h codes) ∷ [] ≡ built)
unfolding codes_built_of
built_numbers h codes room built e =
    let p = passed 5 (leb (length (once_each codes)) max_joints) _ e in
    let q = passed 18 (leb (length (bitmap_of_codes h codes)) room) (Served (length (once_each codes) ∷ groups h (bitmap_of_codes h codes) ∷ length (bitmap_of_codes h codes) ∷ [])) p.1 in (
      leb-true (length (once_each codes)) max_joints p.0,
      leb-true (length (bitmap_of_codes h codes)) room q.0,
      let k = q.1 in let same : length (once_each codes) ∷ groups h (bitmap_of_codes h codes) ∷ length (bitmap_of_codes h codes) ∷ [] ≡ built = cc in same,
    )

-- of an answer that serves
pub served_board : {P : Type 0} (sheet : List ℕ) (work room : ℕ) (served : List ℕ) → read_of sheet work room ≡ Accepted served → ((rs : List Record) → ServedBoard sheet rs room served → P) → P
unfolding read_of board_of set_of bitmap_of
served_board sheet work room served e go =
    went_onward (sheet_of sheet) _ e λ rs k e₁.
    went_onward (offset 0 (10 unless leb (length (cells_in rs)) work)) _ e₁ λ _ _ e₂.
    went_onward (offset 0 (codes_built_of (height_in 0 rs) (map (code_of (height_in 0 rs)) (cells_in rs)) room)) _ e₂ λ built m e₃.
    let known = built_numbers (height_in 0 rs) (map (code_of (height_in 0 rs)) (cells_in rs)) room built (was_served 0 _ built m) in
    let shaped = sheet_shape sheet rs k in
    let e₄ = rw (← known.2) at e₃ in
    go rs (record {
      accepted = k;
      shaped = shaped;
      numbers = let same : numbers_in rs ≡ served = cc in same;
      fits = known.1;
      checked = built_checks (height_in 0 rs) (cells_in rs) shaped.high shaped.low known.0;
    })

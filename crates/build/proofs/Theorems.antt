-- What building is worth: the bitmap is valid, reads back as the cells, is the only one, and fits.
use Prim.Native.Nat.{ℕ, ◌^◌, ◌≤◌, ◌<◌}
use mathlib.Core.Bool.{true}
use mathlib.Core.Path.{◌≡◌, sym, ap, ◌∙◌}
use mathlib.Core.List.{List, [], ◌∷◌, map}
use native.Mathlib.Omega.{arith}
use lib.ListN.{length, get_or}
use lib.Dec.{eqb}
use Rattle.refusal.proofs.Tests.{both}
use Rattle.refusal.specs.Answer.{Served}
use Rattle.order.specs.Order.{has}
use Rattle.order.proofs.Total.{All, all_nil, all_cons}
use Rattle.order.proofs.Sets.{In, has-set}
use Rattle.board.specs.Limits.{max_height, max_joints}
use Rattle.board.specs.Levels.{Box, joints, groups}
use Rattle.board.specs.Code.{code, code_of}
use Rattle.board.specs.Valid.{Valid}
use Rattle.board.specs.Check.{check_of}
use Rattle.board.specs.Member.{among, stored, on_board}
use Rattle.board.proofs.Codes.{decode, codes}
use Rattle.board.proofs.WayDown.{among_code, stored_code, same_joints}
use Rattle.board.proofs.Under.{Small}
use Rattle.board.proofs.Tests.{cell_test}
use Rattle.board.proofs.Valid.{valid_served}
use Rattle.board.proofs.Bounds.{groups_at_most}
use Rattle.build.specs.Answers.{all_on}
use Rattle.build.specs.Build.{set_of, bitmap_of_codes, bitmap_of}
use Rattle.build.proofs.Bitmaps.{bitmap_of_joints, bitmap_valid, bitmap_bytes, codes_of_bitmap, joints_of_bitmap, length_joints_of_bitmap}
use Rattle.build.proofs.Building.{codes_of_cells}

-- the bitmap of any cells is valid
pub built_valid : (h : ℕ) (cells : List Box) → 1 ≤ h → Valid h (bitmap_of h cells)
built_valid = bitmap_valid

-- its joints are the cells, once each, in bitmap order
pub built_joints : (h : ℕ) (cells : List Box) → 1 ≤ h → joints h (bitmap_of h cells) ≡ map (decode h) (set_of h cells)
built_joints = joints_of_bitmap

-- the set has what the cells have
has_set_of : (h : ℕ) (cells : List Box) (z : ℕ) → has z (set_of h cells) ≡ has z (map (code_of h) cells)
unfolding set_of
has_set_of h cells z = has-set z (map (code_of h) cells)

-- cells on the board, one by one
on_board_lem : (h : ℕ) (cells : List Box) → all_on h cells ≡ true → All (Small h) cells
unfolding all_on
on_board_lem h [] e = all_nil
on_board_lem h (b ∷ cells) e =
    let t = both (on_board h b.row b.col) (all_on h cells) e in
    let on = (cell_test h b.row b.col).0 t.0 in
    all_cons (record { rows = on.0; cols = on.1 }) (on_board_lem h cells t.1)

-- a cell is stored in it exactly where it is one of the cells
pub built_stored : (h : ℕ) (cells : List Box) (r c : ℕ) → 1 ≤ h → all_on h cells ≡ true → r < 2 ^ h → c < 2 ^ h → stored h (bitmap_of h cells) r c ≡ among r c cells
built_stored h cells r c low all on also =
    stored_code h (bitmap_of h cells) r c on also
    ∙ ap (λ (n : ℕ). eqb n 1) (ap (has (code h r c)) (codes_of_bitmap h cells low) ∙ has_set_of h cells (code h r c))
    ∙ sym (among_code h r c on also (on_board_lem h cells all))

-- the check serves it, within the limits
pub built_checks : (h : ℕ) (cells : List Box) → 1 ≤ h → h ≤ max_height → length (set_of h cells) ≤ max_joints
    → check_of h (bitmap_of h cells) ≡ Served (length (set_of h cells) ∷ groups h (bitmap_of h cells) ∷ [])
built_checks h cells low high few =
    let many = length_joints_of_bitmap h cells low in
    rw many at (valid_served h (bitmap_of h cells) (bitmap_valid h cells low) high (omega arith))

-- every valid bitmap is built again from its joints
pub rebuilt : (h : ℕ) (bytes : List ℕ) → Valid h bytes → ((i : ℕ) → get_or bytes i 0 < 256) → bitmap_of h (joints h bytes) ≡ bytes
rebuilt = bitmap_of_joints

-- two valid bitmaps of one height with the same joints are the same bytes
pub bitmap_unique : (h : ℕ) (a b : List ℕ) → Valid h a → Valid h b → ((i : ℕ) → get_or a i 0 < 256) → ((i : ℕ) → get_or b i 0 < 256) → joints h a ≡ joints h b → a ≡ b
bitmap_unique h a b va vb fa fb e = sym (rebuilt h a va fa) ∙ ap (bitmap_of h) e ∙ rebuilt h b vb fb

-- what is built is the only valid bitmap that stores exactly the cells
pub only_bitmap : (h : ℕ) (cells : List Box) (bytes : List ℕ) → all_on h cells ≡ true → Valid h bytes → ((i : ℕ) → get_or bytes i 0 < 256)
    → ((r c : ℕ) → r < 2 ^ h → c < 2 ^ h → stored h bytes r c ≡ among r c cells) → bytes ≡ bitmap_of h cells
only_bitmap h cells bytes all v small same =
    let low = v.tall in
    bitmap_unique h bytes (bitmap_of h cells) v (bitmap_valid h cells low) small (bitmap_bytes h cells)
    (same_joints h bytes (bitmap_of h cells) (λ r c on also. same r c on also ∙ sym (built_stored h cells r c low all on also)))

-- cells in any order, and any of them more than once, have one bitmap
pub any_order : (h : ℕ) (a b : List Box) → 1 ≤ h → all_on h a ≡ true → all_on h b ≡ true → ((r c : ℕ) → among r c a ≡ among r c b) → bitmap_of h a ≡ bitmap_of h b
any_order h a b low on also same =
    only_bitmap h b (bitmap_of h a) also (bitmap_valid h a low) (bitmap_bytes h a) (λ r c i k. built_stored h a r c low on i k ∙ same r c)

-- a board within the limits fits 8,875 bytes
pub built_fits : (h : ℕ) (cells : List Box) → 1 ≤ h → h ≤ max_height → length (set_of h cells) ≤ max_joints → length (bitmap_of h cells) ≤ 8875
built_fits h cells low high few = (groups_at_most h (bitmap_of h cells) (bitmap_valid h cells low) high (rw (length_joints_of_bitmap h cells low) few)).1

-- codes below 4 ^ h are those of their cells, so all of this holds for what is built from codes
pub codes_as_cells : (h : ℕ) (codes : List ℕ) → ((z : ℕ) → In z codes → z < 4 ^ h) → bitmap_of_codes h codes ≡ bitmap_of h (map (decode h) codes)
unfolding bitmap_of
codes_as_cells h codes small = rw (codes_of_cells h codes small)

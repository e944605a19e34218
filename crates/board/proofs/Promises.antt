-- What the promises of the entries come to: the check serves exactly the valid bitmaps within the limits, and membership is membership among the
-- joints.
use Prim.Native.Nat.{ℕ, zero, suc, ◌^◌, ◌<◌}
use mathlib.Core.Bool.{Bool, true, false, cond, ◌&&◌}
use mathlib.Core.Logic.{◌↔◌}
use mathlib.Core.Path.{◌≡◌, refl, sym, ap}
use mathlib.Core.List.{List, [], ◌∷◌}
use native.Mathlib.Omega.{arith}
use lib.ListN.{length, get_or}
use lib.Dec.{eqb}
use borrow.Author.Tests.{eqb-true, eq-eqb, lt-ltb}
use Rattle.refusal.proofs.Tests.{both}
use Rattle.refusal.specs.Answer.{Served}
use Rattle.order.proofs.Cases.{test_cases}
use Rattle.bitmap.specs.Directory.{directory_of}
use Rattle.bitmap.proofs.Directory.{alike_same}
use Rattle.board.specs.Levels.{Box, joints}
use Rattle.board.specs.Check.{check_of}
use Rattle.board.specs.Ready.{Ready}
use Rattle.board.specs.Member.{among, stored, on_board, member_of}
use Rattle.board.proofs.Codes.{box_path}
use Rattle.board.proofs.Valid.{Sound, served_valid, valid_served}

-- ---- the check

-- it serves j joints and g boxes exactly where the bitmap is valid, at a height from 1 to the greatest, with no more joints than the most, and has so many
pub check_exactly : (h : ℕ) (bytes : List ℕ) (j g : ℕ) → (check_of h bytes ≡ Served (j ∷ g ∷ [])) ↔ Sound h bytes j g
check_exactly h bytes j g = (served_valid h bytes j g, λ s. rw (s.joints_are, s.groups_are) (valid_served h bytes s.valid s.low s.few))

-- ---- membership

-- a list of boxes has the one in row r and column c where one of its places is that box
pub among_place : (r c : ℕ) (bs : List Box) (d : Box) → among r c bs ≡ true → (i : ℕ) × (i < length bs) × (get_or bs i d ≡ record { row = r; col = c })
unfolding among
among_place r c [] d e = absurd (let z : ◌≡◌ {A = ℕ} 0 1 = cc in omega arith)
among_place r c (b ∷ bs) d e = go (eqb r b.row && eqb c b.col) refl e (among_place r c bs d)
  where
    go : (t : Bool) → eqb r b.row && eqb c b.col ≡ t → cond t true (among r c bs) ≡ true
        → (among r c bs ≡ true → (i : ℕ) × (i < length bs) × (get_or bs i d ≡ record { row = r; col = c }))
        → (i : ℕ) × (i < length (b ∷ bs)) × (get_or (b ∷ bs) i d ≡ record { row = r; col = c })
    go true f k rest =
        let here = both (eqb r b.row) (eqb c b.col) f in
        (0, omega arith, box_path b (record { row = r; col = c }) (sym (eqb-true r b.row here.0)) (sym (eqb-true c b.col here.1)))
    go false f k rest = let there = rest k in (suc there.0, omega (arith, there.1), there.2)

-- and back
pub place_among : (r c : ℕ) (bs : List Box) (d : Box) (i : ℕ) → i < length bs → get_or bs i d ≡ record { row = r; col = c } → among r c bs ≡ true
unfolding among
place_among r c [] d i k e = absurd (omega arith)
place_among r c (b ∷ bs) d zero k e =
    let row : r ≡ b.row = sym (ap (λ (x : Box). x.row) e) in
    let col : c ≡ b.col = sym (ap (λ (x : Box). x.col) e) in
    rw (eq-eqb r b.row row, eq-eqb c b.col col)
place_among r c (b ∷ bs) d (suc i) k e =
    test_cases (eqb r b.row && eqb c b.col) (λ f. rw f) (λ f. rw f (place_among r c bs d i (omega arith) e))

-- of a board that may be asked, a cell on it is served by whether it is a joint
pub ready_member : (h : ℕ) (bytes d : List ℕ) (r c : ℕ) → Ready h bytes d → r < 2 ^ h → c < 2 ^ h → member_of h bytes d r c ≡ Served (among r c (joints h bytes))
unfolding member_of on_board stored
ready_member h bytes d r c b lr lc =
    rw (valid_served h bytes b.valid b.low b.few, b.ranked, alike_same (directory_of bytes), lt-ltb r (2 ^ h) lr, lt-ltb c (2 ^ h) lc)

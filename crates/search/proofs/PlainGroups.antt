-- The boxes of a board without ranks: a box has a group exactly when it is the whole board or holds a joint.
use Prim.Native.Nat.{ℕ, zero, suc, ◌+◌, ◌-◌, ◌^◌, ◌≤◌, ◌<◌}
use mathlib.Core.Path.{◌≡◌, sym, ◌∙◌}
use mathlib.Core.Logic.{◌⊎◌, inl, inr, ⊎_elim, ◌↔◌}
use mathlib.Core.List.Memᴰ
use mathlib.Core.List.{List, [], ◌∷◌}
use native.Mathlib.Omega.{arith}
use native.Mathlib.Nat.{add-zero, one-le-pow, div-one}
use lib.ListN.{length, get_or}
use Rattle.board.specs.Levels.{Box, root, joints, groups}
use Rattle.board.specs.Member.{stored}
use Rattle.board.specs.Under.{Stands, along, under}
use Rattle.board.specs.Valid.{Valid}
use Rattle.board.proofs.Levels.{groups_suc}
use Rattle.board.proofs.Codes.{box_path}
use Rattle.board.proofs.Rank.{stands_root, stands_at, parent}
use Rattle.board.proofs.Under.{Within, quarter_within, within_trans, under_level, under_within}
use Rattle.board.proofs.Kids.{joints_under, stands_zero, stands_joint}
use Rattle.search.specs.Plain.{◌∈◌, Holds}
use Rattle.search.proofs.PlainDistances.{within_lies, lies_within}
use Rattle.search.proofs.PlainLists.{all_member, some_member, member_place}
use Rattle.search.proofs.PlainJoints.{member_among, among_member}

-- what is listed of one of the boxes in a row
along_member : {A : Type 0} {x : A} (f : ℕ → Box → List A) (g i : ℕ) (bs : List Box) → i < length bs → x ∈ f (g + i) (get_or bs i root) → x ∈ along f g bs
unfolding along
along_member f g i [] lt m = absurd (omega arith)
along_member f g zero (b ∷ bs) lt m = Memᴰ.append_left (along f (suc g) bs) (rw add-zero at m)
along_member f g (suc i) (b ∷ bs) lt m = let on : g + suc i ≡ suc g + i = omega arith in Memᴰ.append_right (f g b) (along_member f (suc g) i bs (omega arith) (rw on at m))

-- what is under a box of level n, with k levels left, is of level n + k
under_joints : (bytes : List ℕ) (h k n g : ℕ) {b c : Box} → n + k ≡ h → Stands bytes n g b → c ∈ under bytes k g b → c ∈ joints h bytes
under_joints bytes h k n g {c = c} e s m =
    let on : groups n bytes + (g - groups n bytes) ≡ g = omega (arith, s.low) in
    rw (under_level bytes k n, e) at (along_member {x = c} (under bytes k) (groups n bytes) (g - groups n bytes) (joints n bytes) (omega (arith, s.low, s.high, groups_suc bytes n)) (rw (on, s.box root) m))

-- in a valid bitmap every group but group 0 holds a joint
pub group_holds : (h : ℕ) (bytes : List ℕ) (n g : ℕ) (b : Box) → Valid h bytes → n ≤ h → 1 ≤ g → Stands bytes n g b → Holds h bytes (2 ^ (h - n)) b
unfolding joints_under stored
group_holds h bytes n g b v le pos s =
    let on : n + (h - n) ≡ h = omega arith in
    let c = some_member (under bytes (h - n) g b) (stands_joint h bytes n (h - n) g b v on pos s) in
    record {
      row = c.0.row;
      column = c.0.col;
      lies = within_lies (2 ^ (h - n)) (one-le-pow (h - n) 2 (omega arith)) (all_member (under_within bytes (h - n) g b) c.1);
      is_stored = member_among (under_joints bytes h (h - n) n g on s c.1);
    }

-- a box with a group, that a box lies in
Holder : List ℕ → ℕ → ℕ → Box → Type 0
Holder bytes n k c = (g : ℕ) × (b : Box) × Stands bytes n g b × Within (2 ^ k) c b

-- one level up
up_one : (bytes : List ℕ) (n k g : ℕ) (b c : Box) → Stands bytes (suc n) g b → Within (2 ^ k) c b → Holder bytes n (suc k) c
unfolding Holder
up_one bytes n k g b c s w =
    let p = parent bytes n g b s in
    (p.group, p.box, p.stands, within_trans k p.box b c (rw p.is at (quarter_within p.bit p.box p.small)) w)

-- the box of level n that a box of level n + k lies in has a group
holder : (bytes : List ℕ) (k n g : ℕ) (c : Box) → Stands bytes (n + k) g c → Holder bytes n k c
unfolding Holder
holder bytes zero n g c s = (g, c, rw add-zero at s, record { row = div-one _; col = div-one _ })
holder bytes (suc k) n g c s =
    let on : n + suc k ≡ suc n + k = omega arith in
    let up = holder bytes k (suc n) g c (rw on at s) in
    up_one bytes n k up.0 up.1 c up.2 up.3

-- a cell lies in one box of a side
same_box : (s : ℕ) (a b c : Box) → Within s c a → Within s c b → a ≡ b
same_box s a b c v w = box_path a b (sym v.row ∙ w.row) (sym v.col ∙ w.col)

-- a box that holds a joint has a group
pub holds_group : (h : ℕ) (bytes : List ℕ) (n : ℕ) (b : Box) → n ≤ h → Holds h bytes (2 ^ (h - n)) b → (g : ℕ) × Stands bytes n g b
unfolding stored Holder
holds_group h bytes n b le o =
    let on : n + (h - n) ≡ h = omega arith in
    let cell : Box = record { row = o.row; col = o.column } in
    let i = member_place (joints h bytes) root (among_member o.row o.column (joints h bytes) o.is_stored) in
    let stands : Stands bytes h (groups h bytes + i.0) cell = rw i.2 at (stands_at bytes h i.0 root i.1) in
    let up = holder bytes (h - n) n (groups h bytes + i.0) cell (rw on stands) in
    (up.0, rw (same_box (2 ^ (h - n)) b up.1 cell (lies_within (2 ^ (h - n)) o.lies) up.3) up.2)

-- a box above the cells has a group exactly when it is the whole board or holds a joint
pub boxes_exactly : (h : ℕ) (bytes : List ℕ) → Valid h bytes → (n : ℕ) (b : Box) → n < h
    → ((g : ℕ) × Stands bytes n g b) ↔ (((n ≡ 0) × (b ≡ root)) ⊎ Holds h bytes (2 ^ (h - n)) b)
boxes_exactly h bytes v n b lt = (λ s. go s.0 s.1, ⊎_elim (λ e. (0, rw (e.0, e.1) (stands_root bytes))) (holds_group h bytes n b (omega arith)))
  where
    go : (g : ℕ) → Stands bytes n g b → ((n ≡ 0) × (b ≡ root)) ⊎ Holds h bytes (2 ^ (h - n)) b
    go zero s = inl (stands_zero bytes n b s)
    go (suc g) s = inr (group_holds h bytes n (suc g) b v (omega arith) (omega arith) s)

-- What the key and the corner of a pending entry say: what a box's group, levels and corner are, and that there is room for what it opens to.
use Prim.Native.Nat.{ℕ, zero, suc, ◌+◌, ◌*◌, ◌-◌, ◌/◌, ◌%◌, ◌^◌, ◌≤◌, ◌<◌, max}
use mathlib.Core.Path.{◌≡◌, refl, sym, ap, ◌∙◌}
use mathlib.Core.List.{List, [], ◌∷◌, ◌++◌, map}
use native.Mathlib.Omega.{arith}
use native.Mathlib.Nat.{mul-le-mul_right, suc-mul}
use lib.ListN.{length, length-append, length-map}
use lib.Pow.{pow_mono, pow-add}
use Rattle.order.specs.Bag.{same, count}
use Rattle.order.proofs.Total.{total, total_append}
use Rattle.order.proofs.Bag.{Each, count-append}
use Rattle.bitmap.specs.Bits.{group_at, ones_of}
use Rattle.board.specs.Limits.{max_height, max_side}
use Rattle.board.specs.Levels.{Box, groups}
use Rattle.board.specs.Under.{first_child}
use Rattle.board.specs.Kids.{Entry, kids_at, kids}
use Rattle.board.proofs.Levels.{groups_mono}
use Rattle.board.proofs.Under.{stands_small}
use Rattle.board.proofs.Valid.{Sound}
use Rattle.board.proofs.Bounds.{group_in_bytes, served_groups, served_height, side_is}
use Rattle.search.specs.Near.{Place}
use Rattle.search.specs.Keys.{kind_of, id_of, key_at, key_of}
use Rattle.search.specs.Entries.{corner_at, corner_of, entry_of, pack, pack_of, entry_in}
use Rattle.search.proofs.Keys.{box_says, joint_says}
use Rattle.search.proofs.Visit.{joints_in}
use Rattle.search.proofs.Board.{OnBoard, served_room}
use Rattle.search.proofs.Entries.{corner_small, corner_says}
use Rattle.search.proofs.Quarters.{length_kids_to, kids_to_all, ones_to_all}
use Rattle.search.proofs.Underway.{Underway, on_board_lem, underway_step, pack_parts, corner_fits}

-- of a box's key and corner: its quarters have so many levels, and it is the entry e
pub record BoxIs (bytes : List ℕ) (x c : ℕ) (e : Entry) (level : ℕ) : Type 0 where
  pub left : e.left ≡ suc level
  pub levels : c / 2 ^ 24 ≡ suc level
  pub group : id_of x ≡ e.group
  pub rows : c / 2 ^ 12 % 2 ^ 12 ≡ e.box.row * 2 ^ suc level
  pub columns : c % 2 ^ 12 ≡ e.box.col * 2 ^ suc level
  pub low : suc level ≤ max_height
  pub rows_fit : c / 2 ^ 12 % 2 ^ 12 + 2 ^ suc level ≤ max_side
  pub columns_fit : c % 2 ^ 12 + 2 ^ suc level ≤ max_side
  pub there : e.group < 2 * length bytes

-- a span of 2 ^ k cells that begins at a multiple of it ends on the board
span_fits : (h k x : ℕ) → k ≤ h → h ≤ max_height → x < 2 ^ (h - k) → x * 2 ^ k + 2 ^ k ≤ max_side
span_fits h k x le low l =
    let whole : 2 ^ (h - k) * 2 ^ k ≡ 2 ^ h = let e : h - k + k ≡ h = omega arith in sym (pow-add 2 (h - k) k) ∙ ap (λ (n : ℕ). 2 ^ n) e in
    let next : suc x * 2 ^ k ≤ 2 ^ (h - k) * 2 ^ k = mul-le-mul_right (2 ^ k) l in
    let same : suc x * 2 ^ k ≡ x * 2 ^ k + 2 ^ k = rw (suc-mul) in
    omega (arith, pow_mono {i = h} {j = max_height} low, side_is)

module _ (p : Place) (h : ℕ) (bytes : List ℕ) {j g : ℕ} (s : Sound h bytes j g) where
  box_at : (k gr : ℕ) (b : Box) (x c : ℕ) → OnBoard h bytes (record { left = k; group = gr; box = b }) → x ≡ key_at p k gr b → c ≡ corner_at k b → kind_of x ≡ 0
      → (level : ℕ) × BoxIs bytes x c (record { left = k; group = gr; box = b }) level
  unfolding key_at corner_at
  box_at zero gr b x c on ex ec box =
      let small = stands_small bytes (h - 0) on.at b on.stands in
      let most : 2 ^ (h - 0) ≤ 2 ^ 12 = pow_mono {i = h - 0} {j = 12} (omega (arith, served_height h bytes j g s)) in
      absurd (omega (arith, (joint_says p b (omega arith) (omega arith)).kind, ap kind_of ex))
  box_at (suc k) gr b x c on ex ec box =
      let small = stands_small bytes (h - suc k) on.at b on.stands in
      let low = served_height h bytes j g s in
      let says = corner_says (suc k) (b.row * 2 ^ suc k) (b.col * 2 ^ suc k) (corner_small h (suc k) b.row low on.low small.rows) (corner_small h (suc k) b.col low on.low small.cols) in
      let below : gr < groups h bytes = omega (arith, on.numbered (omega arith), on.stands.high, groups_mono bytes (suc (h - suc k)) h (omega (arith, on.low))) in (
        k,
        record {
          left = refl;
          levels = rw ec says.0;
          group = rw ex (box_says p (2 ^ suc k) gr b (omega (arith, served_groups h bytes j g s))).id;
          rows = rw ec says.1;
          columns = rw ec says.2;
          low = omega (arith, on.low, s.low);
          rows_fit = rw (ec, says.1) (span_fits h (suc k) b.row on.low s.low small.rows);
          columns_fit = rw (ec, says.2) (span_fits h (suc k) b.col on.low s.low small.cols);
          there = omega (arith, group_in_bytes h bytes gr s.valid below);
        },
      )

  joint_at : (k gr : ℕ) (b : Box) (x : ℕ) → OnBoard h bytes (record { left = k; group = gr; box = b }) → x ≡ key_at p k gr b → kind_of x ≡ 1 → kids_at bytes k gr b ≡ []
  unfolding key_at kids_at
  joint_at zero gr b x on ex joint = refl
  joint_at (suc k) gr b x on ex joint =
      let below : gr < groups h bytes = omega (arith, on.numbered (omega arith), on.stands.high, groups_mono bytes (suc (h - suc k)) h (omega (arith, on.low))) in
      absurd (omega (arith, (box_says p (2 ^ suc k) gr b (omega (arith, served_groups h bytes j g s))).kind, ap kind_of ex))

  -- as many entries as the group has ones
  pub length-kids : (level gr : ℕ) (b : Box) → length (kids_at bytes (suc level) gr b) ≡ ones_of (group_at bytes gr)
  unfolding kids_at
  length-kids level gr b = rw (← kids_to_all level (first_child bytes gr) (group_at bytes gr) b) (length_kids_to level (first_child bytes gr) (group_at bytes gr) b 4 ∙ ones_to_all (group_at bytes gr))

  -- what is known of a pending entry, by its key and its corner
  pub record Is (x c : ℕ) : Type 0 where
    pub decoded : entry_in (pack x c) ≡ entry_of x c
    pub on : OnBoard h bytes (entry_of x c)
    pub key : x ≡ key_of p (entry_of x c)
    pub corner : c ≡ corner_of (entry_of x c)
    pub in_front : pack x c / 2 ^ 32 ≡ x

  module _ (k : ℕ) {left pend : List ℕ} (u : Underway p h bytes s k left pend) (x c : ℕ) (fits : c < 2 ^ 32) (here : 1 ≤ count (pack x c) pend) where
    -- a pending entry is on the board
    pub pending_is : Is x c
    pending_is =
        let parts = pack_parts x c fits in
        let same : entry_in (pack x c) ≡ entry_of x c = rw (parts.0, parts.1) refl in
        let on : OnBoard h bytes (entry_of x c) = rw same at ((on_board_lem p h bytes s k u).of (pack x c) here) in
        let is : pack x c ≡ pack_of p (entry_of x c) = rw same at (u.entered.of (pack x c) here) in
        let again = pack_parts (key_of p (entry_of x c)) (corner_of (entry_of x c)) (corner_fits p h bytes (served_groups h bytes j g s) (served_height h bytes j g s) (entry_of x c) on) in
        record { decoded = same; on = on; key = sym parts.0 ∙ ap (λ (n : ℕ). n / 2 ^ 32) is ∙ again.0; corner = sym parts.1 ∙ ap (λ (n : ℕ). n % 2 ^ 32) is ∙ again.1; in_front = parts.0 }

    -- a box
    pub pending_box : kind_of x ≡ 0 → (level : ℕ) × BoxIs bytes x c (entry_of x c) level
    pending_box box = let i = pending_is in box_at (entry_of x c).left (entry_of x c).group (entry_of x c).box x c i.on i.key i.corner box

    -- a joint has nothing in it
    pub pending_joint : kind_of x ≡ 1 → kids bytes (entry_of x c) ≡ []
    pending_joint joint = let i = pending_is in joint_at (entry_of x c).left (entry_of x c).group (entry_of x c).box x i.on i.key joint

    module _ (rest : List ℕ) (some : joints_in left < k) (least : Each (λ y. x ≤ y / 2 ^ 32) pend) (out : (y : ℕ) → count y pend ≡ same y (pack x c) + count y rest) where
      -- it leaves, and what lies in it comes
      pub pending_next : (next : List ℕ) → ((y : ℕ) → count y next ≡ count y (map (pack_of p) (kids bytes (entry_of x c))) + count y rest) → Underway p h bytes s k (left ++ x ∷ []) next
      pending_next next back =
          let i = pending_is in
          rw i.in_front at (underway_step p h bytes s k (pack x c) rest next u some (rw i.in_front least) out (rw i.decoded back))

      -- both have room in the work lists
      pub pending_room : joints_in left + kind_of x + (length (kids bytes (entry_of x c)) + length rest) ≤ max 1 j
      unfolding total
      pending_room =
          let new = map (pack_of p) (kids bytes (entry_of x c)) in
          let u' = pending_next (new ++ rest) (λ y. count-append y new rest) in
          omega (arith, served_room p h bytes s u'.search, total_append kind_of left (x ∷ []), length-map (new ++ rest) entry_in, length-append new rest, length-map (kids bytes (entry_of x c)) (pack_of p))

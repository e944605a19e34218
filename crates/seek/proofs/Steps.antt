-- A step on the work lists: from what was taken, what it says of the search.
use Prim.Native.Nat.{ℕ, zero, suc, ◌+◌, ◌-◌, ◌/◌, ◌^◌, ◌≤◌, ◌<◌, max}
use mathlib.Core.Bool.{Bool, true, false}
use mathlib.Core.Path.{◌≡◌, refl, sym, ap, ◌∙◌}
use mathlib.Core.List.{List, [], ◌∷◌, ◌++◌, map, append-nil}
use native.Mathlib.Omega.{arith}
use lib.ListN.{length, get_or, set, length-set, length-map}
use lib.Seq.{get_or-set_same, get_or-set_other, get_or-take, length-take-le}
use lib.Dec.{eqb}
use borrow.Author.Tests.{eq-eqb, ne_eqb, eqb-true, eqb-false}
use Rattle.order.specs.Order.{keep}
use Rattle.order.specs.Bag.{count}
use Rattle.order.specs.Heap.{parent}
use Rattle.order.proofs.Cases.{same_self}
use Rattle.order.proofs.Total.{adds}
use Rattle.order.proofs.Bag.{Each, each_index}
use Rattle.bitmap.specs.Bits.{group_at, ones_of}
use Rattle.board.specs.Limits.{max_joints}
use Rattle.board.specs.Kids.{kids}
use Rattle.board.proofs.Bounds.{groups_at_most, served_groups}
use Rattle.search.specs.Near.{Place}
use Rattle.search.specs.Keys.{kind_of, is_box, is_joint, id_of}
use Rattle.search.specs.Entries.{entry_of, entry_in, pack, pack_of}
use Rattle.search.proofs.Board.{served_room, board_entries}
use Rattle.search.proofs.Visit.{boxes_kept, joints_kept}
use Rattle.search.proofs.Boxes.{pending_box, pending_joint, pending_room, length-kids}
use Rattle.seek.specs.declared.step.Tally.{Tally}
use Rattle.seek.specs.Pending.{packed, pending_in, Heaped, Taken}
use Rattle.seek.specs.Opening.{BoxMayOpen, OnesFit, Opened}
use Rattle.seek.specs.Step.{handed_in, Searching, Goes, Stepped}
use Rattle.seek.proofs.Lists.{packed_long, packed_at}

-- as many entries as are tallied
pub pending_long : (n : ℕ) (ks cs : List ℕ) → n ≤ length ks → n ≤ length cs → length (pending_in n ks cs) ≡ n
pending_long n ks cs h l = length-take-le n (packed ks cs) (packed_long n ks cs h l)

-- a key that is at most each of theirs is at most each of the entries' keys
pub least_key : (n : ℕ) (ks cs : List ℕ) (x : ℕ) → n ≤ length ks → n ≤ length cs → ((i : ℕ) → i < n → x ≤ get_or ks i 0) → Each (λ y. x ≤ y / 2 ^ 32) (pending_in n ks cs)
least_key n ks cs x h l smallest =
    each_index (pending_in n ks cs) 0 (λ i lt.
    let up : i < n = rw (pending_long n ks cs h l) at lt in
    rw (get_or-take n (packed ks cs) i 0 up, packed_at i ks cs (omega arith) (omega arith)) (omega (arith, smallest i up)))

-- a key that is stored behind the pending entries changes none of them
pub pending_behind : (n i k : ℕ) (ks cs : List ℕ) → n ≤ i → pending_in n (set ks i k) cs ≡ pending_in n ks cs
unfolding packed
pending_behind zero i k ks cs h = refl
pending_behind (suc n) i k [] cs h = refl
pending_behind (suc n) zero k (x ∷ ks) cs h = absurd (omega arith)
pending_behind (suc n) (suc i) k (x ∷ ks) [] h = refl
pending_behind (suc n) (suc i) k (x ∷ ks) (c ∷ cs) h = ap (λ (l : List ℕ). pack x c ∷ l) (pending_behind n i k ks cs (omega arith))

-- and heap order is theirs alone
pub heaped_behind : (n i k : ℕ) (ks : List ℕ) → n ≤ i → Heaped n ks → Heaped n (set ks i k)
heaped_behind n i k ks h o j lo hi = rw (get_or-set_other ks i j k 0 (λ q. omega arith), get_or-set_other ks i (parent j) k 0 (λ q. omega arith)) (o j lo hi)

-- what is handed out lies in the last places alone
pub handed_same : (m n : ℕ) (ks ks' : List ℕ) → length ks' ≡ length ks → n + m ≤ length ks → ((i : ℕ) → n ≤ i → get_or ks' i 0 ≡ get_or ks i 0) → handed_in m ks' ≡ handed_in m ks
unfolding handed_in
handed_same zero n ks ks' long room h = refl
handed_same (suc m) n ks ks' long room h = rw (handed_same m n ks ks' long (omega arith) h, long, h (length ks - suc m) (omega arith))

-- one more is handed out
pub handed_more : (m k : ℕ) (ks : List ℕ) → m < length ks → handed_in (m + 1) (set ks (length ks - 1 - m) k) ≡ handed_in m ks ++ k ∷ []
unfolding handed_in
handed_more m k ks h =
    let at : length ks - 1 - m ≡ length ks - suc m = omega arith in
    let long : length (set ks (length ks - suc m) k) ≡ length ks = length-set ks (length ks - suc m) k in
    let one : m + 1 ≡ suc m = omega arith in
    rw (
      at,
      one,
      long,
      get_or-set_same ks (length ks - suc m) k 0 (omega arith),
      handed_same m (length ks - m) ks (set ks (length ks - suc m) k) long (omega arith) (λ i le. get_or-set_other ks (length ks - suc m) i k 0 (λ q. omega arith)),
    )

-- a search is never long: so its tally fits 32 bits
pub tally_small : {p : Place} {bytes directory : List ℕ} {t : Tally} {ks cs : List ℕ} (s : Searching p bytes directory t ks cs) → (max 1 s.joints < 2 ^ 16) × (t.opened + t.handed < 2 ^ 16)
unfolding max_joints
tally_small {p} {bytes} s =
    let few = groups_at_most s.height bytes s.sound.valid s.sound.low s.sound.few in
    (omega (arith, s.sound.few, s.sound.joints_are), omega (arith, few, s.sound.few, s.counted, board_entries p s.height bytes (served_groups s.height bytes s.joints s.groups s.sound) s.underway.search))

-- what is pending and what is handed out have room
pub pending_within : {p : Place} {bytes directory : List ℕ} {t : Tally} {ks cs : List ℕ} (s : Searching p bytes directory t ks cs) → t.pending + t.handed ≤ max 1 s.joints
pending_within {p} {bytes} {t = t} {ks = ks} {cs = cs} s =
    omega (arith, s.handed_out, served_room p s.height bytes s.sound s.underway.search, length-map (pending_in t.pending ks cs) entry_in, pending_long t.pending ks cs s.in_keys s.in_corners)

module _ (p : Place) (bytes directory : List ℕ) (t : Tally) (ks cs : List ℕ) (go : Goes p bytes directory t ks cs) {x c : ℕ} {ks' cs' : List ℕ} (tk : Taken t.pending ks cs x c ks' cs') where
  -- what leaves was pending
  pub was_there : 1 ≤ count (pack x c) (pending_in t.pending ks cs)
  was_there = omega (arith, tk.leaves (pack x c), same_self (pack x c))

  least : Each (λ y. x ≤ y / 2 ^ 32) (pending_in t.pending ks cs)
  least = least_key t.pending ks cs x go.searching.in_keys go.searching.in_corners (tk.smallest go.searching.heaped)

  held : t.pending + t.handed ≤ max 1 go.searching.joints
  held = pending_within go.searching

  -- what it opens to has room beside what stays
  pub step_room : t.handed + kind_of x + (length (kids bytes (entry_of x c)) + (t.pending - 1)) ≤ max 1 go.searching.joints
  step_room =
      let s = go.searching in
      let rest = pending_in (t.pending - 1) ks' cs' in
      let long : length rest ≡ t.pending - 1 = pending_long (t.pending - 1) ks' cs' (omega (arith, tk.keys_long, s.in_keys)) (omega (arith, tk.corners_long, s.in_corners)) in
      omega (arith, s.handed_out, pending_room p s.height bytes s.sound s.wanted s.underway x c tk.corner_fits was_there rest (omega (arith, s.handed_out, go.fewer)) least tk.leaves)

  -- a box may be opened
  pub step_box : kind_of x ≡ 0 → BoxMayOpen bytes x c
  step_box box =
      let s = go.searching in
      let b = pending_box p s.height bytes s.sound s.wanted s.underway x c tk.corner_fits was_there box in
      record { level = b.0; is = b.1 }

  -- the room for its ones
  pub ones_room : kind_of x ≡ 0 → OnesFit (group_at bytes (id_of x)) (t.pending - 1) (length ks') (length cs')
  ones_room box =
      let s = go.searching in
      let o = step_box box in
      let many : length (kids bytes (entry_of x c)) ≡ ones_of (group_at bytes (id_of x)) =
      rw (o.is.left, o.is.group) (length-kids p s.height bytes s.sound o.level (entry_of x c).group (entry_of x c).box) in
      record { keys_room = omega (arith, step_room, s.keys_room, tk.keys_long); corners_room = omega (arith, step_room, s.corners_room, tk.corners_long) }

  -- what is pending and what is handed out have room in the keys
  room : t.pending + t.handed ≤ length ks
  room = omega (arith, go.searching.keys_room, held)

  -- what was handed out stays where an entry is taken
  handed_stay : handed_in t.handed ks' ≡ handed_in t.handed ks
  handed_stay = handed_same t.handed t.pending ks ks' tk.keys_long room tk.behind

  -- the joint that left joins the answer
  pub stepped_joint : (trail : List ℕ) → kind_of x ≡ 1
      → Stepped p bytes t ks cs trail (record { opened = t.opened; pending = t.pending - 1; handed = t.handed + 1 }) (set ks' (length ks' - 1 - t.handed) x) cs' trail
  unfolding keep adds count
  stepped_joint trail joint =
      let s = go.searching in
      let none = pending_joint p s.height bytes s.sound s.wanted s.underway x c tk.corner_fits was_there joint in
      let is_joint_lem : is_joint x ≡ true = eq-eqb (kind_of x) 1 joint in
      let no-box : is_box x ≡ false = ne_eqb (kind_of x) 0 (omega arith) in
      record {
        key = x;
        corner = c;
        corner_fits = tk.corner_fits;
        smallest = tk.smallest go.searching.heaped;
        rest = pending_in (t.pending - 1) ks' cs';
        leaves = tk.leaves;
        comes = λ y. rw (none, pending_behind (t.pending - 1) (length ks' - 1 - t.handed) x ks' cs' (omega (arith, tk.keys_long, room))) (omega arith);
        pending_is = rw none (omega arith);
        trail_is = rw no-box refl;
        opened_is = rw no-box (omega arith);
        handed_are = rw is_joint_lem (handed_more t.handed x ks' (omega (arith, tk.keys_long, go.some, room)) ∙ ap (λ (l : List ℕ). l ++ x ∷ []) handed_stay);
        handed_is = rw is_joint_lem refl;
        keys_long = length-set ks' _ x ∙ tk.keys_long;
        corners_long = tk.corners_long;
        heaped = heaped_behind (t.pending - 1) (length ks' - 1 - t.handed) x ks' (omega (arith, tk.keys_long, room)) (tk.ordered go.searching.heaped);
      }

  -- the box that left is opened: its group joins the trail and its ones are pending
  pub stepped_box : (trail : List ℕ) {n : ℕ} {ks'' cs'' : List ℕ} → kind_of x ≡ 0 → Opened p (kids bytes (entry_of x c)) (t.pending - 1) ks' cs' n ks'' cs''
      → Stepped p bytes t ks cs trail (record { opened = t.opened + 1; pending = n; handed = t.handed }) ks'' cs'' (set trail t.opened (id_of x))
  unfolding keep adds count
  stepped_box trail {n} {ks''} {cs''} box o =
      let s = go.searching in
      let no_joint : is_joint x ≡ false = ne_eqb (kind_of x) 1 (omega arith) in
      let is-box : is_box x ≡ true = eq-eqb (kind_of x) 0 box in
      let new = map (pack_of p) (kids bytes (entry_of x c)) in
      let many : length new ≡ length (kids bytes (entry_of x c)) = length-map (kids bytes (entry_of x c)) (pack_of p) in
      let counted : n ≡ t.pending - 1 + length new = omega (arith, o.counted) in
      record {
        key = x;
        corner = c;
        corner_fits = tk.corner_fits;
        smallest = tk.smallest go.searching.heaped;
        rest = pending_in (t.pending - 1) ks' cs';
        leaves = tk.leaves;
        comes = λ y. rw counted (o.added.joins y);
        pending_is = omega (arith, o.counted);
        trail_is = rw is-box refl;
        opened_is = rw is-box refl;
        handed_are = rw (no_joint, append-nil) (handed_same t.handed (t.pending - 1 + length new) ks' ks'' o.added.keys_long (omega (arith, step_room, tk.keys_long, s.keys_room)) o.added.behind
            ∙ handed_stay);
        handed_is = rw no_joint (omega arith);
        keys_long = o.added.keys_long ∙ tk.keys_long;
        corners_long = o.added.corners_long ∙ tk.corners_long;
        heaped = rw counted (o.added.ordered (tk.ordered go.searching.heaped));
      }

-- a key that is a joint's
pub kind_joint : (x : ℕ) {r : Bool} → r ≡ eqb (kind_of x) 1 → r ≡ true → kind_of x ≡ 1
kind_joint x e t = eqb-true (kind_of x) 1 (sym e ∙ t)

-- and one that is not
pub kind_box : (x : ℕ) {r : Bool} → r ≡ eqb (kind_of x) 1 → r ≡ false → kind_of x ≡ 0
kind_box x e t = omega (arith, eqb-false (kind_of x) 1 (sym e ∙ t))

-- a step is one more box opened or one more joint handed out
pub steps_count : {p : Place} {bytes : List ℕ} {t t' : Tally} {ks cs l ks' cs' l' : List ℕ} → Stepped p bytes t ks cs l t' ks' cs' l' → t'.opened + t'.handed ≡ t.opened + t.handed + 1
steps_count d = omega (arith, d.opened_is, d.handed_is, boxes_kept (d.key ∷ []), joints_kept (d.key ∷ []))

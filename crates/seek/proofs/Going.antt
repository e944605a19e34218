-- The search on the work lists, from its beginning through its steps to its end.
use Prim.Native.Nat.{ℕ, zero, suc, ◌+◌, ◌-◌, ◌≤◌, ◌<◌, max}
use mathlib.Core.Path.{◌≡◌, refl, sym, ap, ◌∙◌}
use mathlib.Core.Logic.{◌⊎◌, inl, inr, ⊎_elim}
use mathlib.Core.List.{List, [], ◌∷◌, ◌++◌, map, map-append}
use native.Mathlib.Omega.{arith}
use native.Mathlib.Nat.{add-zero, sub-zero}
use lib.ListN.{length, replicate, length-append, length-map, length-replicate}
use Rattle.order.specs.Order.{keep}
use Rattle.order.specs.Bag.{count}
use Rattle.order.proofs.Cases.{same_self}
use Rattle.order.proofs.Total.{total, total_one, adds, length_adds}
use Rattle.order.proofs.Sorted.{total_bag}
use Rattle.order.proofs.Keep.{keep_append}
use Rattle.board.specs.Levels.{joints, groups}
use Rattle.board.specs.Ready.{Ready}
use Rattle.board.proofs.Valid.{Sound}
use Rattle.board.proofs.Bounds.{served_groups, served_height}
use Rattle.search.specs.Near.{Place}
use Rattle.search.specs.Keys.{id_of, is_box, is_joint}
use Rattle.search.specs.Entries.{entry_in, pack}
use Rattle.search.specs.Question.{trail}
use Rattle.search.proofs.Visit.{joints_in, joints_kept, boxes_kept}
use Rattle.search.proofs.Board.{served_answer, served_trail, served_room, trail_begun}
use Rattle.search.proofs.Underway.{Underway, underway_start}
use Rattle.search.proofs.Boxes.{pending_next, pending_room}
use Rattle.seek.specs.declared.step.Tally.{Tally}
use Rattle.seek.specs.Pending.{pending_in, Heaped}
use Rattle.seek.specs.Step.{handed_in, Goes, Stepped}
use Rattle.seek.specs.Search.{Begins, Reached, Ends}
use Rattle.seek.proofs.Steps.{pending_long, least_key}

-- a board that may be asked is sound
pub ready_sound : {h : ℕ} {bytes d : List ℕ} → Ready h bytes d → Sound h bytes (length (joints h bytes)) (groups h bytes)
ready_sound r = record { valid = r.valid; low = r.low; few = r.few; joints_are = refl; groups_are = refl }

-- stores behind stores
pub adds_append : (l : List ℕ) (n : ℕ) (a b : List ℕ) → adds l n (a ++ b) ≡ adds (adds l n a) (n + length a) b
unfolding adds
adds_append l n [] b = rw (add-zero n)
adds_append l n (x ∷ a) b =
    let e : n + length (x ∷ a) ≡ suc n + length a = omega arith in
    rw e (adds_append _ (suc n) a b)

-- stores behind the first place
adds_cons : (a : ℕ) (l : List ℕ) (n : ℕ) (new : List ℕ) → adds (a ∷ l) (suc n) new ≡ a ∷ adds l n new
unfolding adds
adds_cons a l n [] = refl
adds_cons a l n (x ∷ new) = adds_cons a _ (suc n) new

-- some stored from the front of zeros on: they and then zeros
pub adds_zeros : (n : ℕ) (l : List ℕ) → length l ≤ n → adds (replicate n 0) 0 l ≡ l ++ replicate (n - length l) 0
unfolding adds
adds_zeros n [] h = rw (sub-zero n)
adds_zeros zero (x ∷ l) h = absurd (omega arith)
adds_zeros (suc n) (x ∷ l) h =
    let e : suc n - length (x ∷ l) ≡ n - length l = omega arith in
    rw e (adds_cons x (replicate n 0) 0 l ∙ ap (λ (m : List ℕ). x ∷ m) (adds_zeros n l (omega arith)))

-- one more box, or none, behind the trail
pub trail_more : (zeros left : List ℕ) (x n : ℕ) (l : List ℕ) → n ≡ length (keep is_box left) → l ≡ adds zeros 0 (map id_of (keep is_box left))
    → adds l n (map id_of (keep is_box (x ∷ []))) ≡ adds zeros 0 (map id_of (keep is_box (left ++ x ∷ [])))
trail_more zeros left x n l e f =
    let many : n ≡ 0 + length (map id_of (keep is_box left)) = omega (arith, length-map (keep is_box left) id_of) in
    rw (keep_append is_box left (x ∷ []), map-append, adds_append, ← many, ← f) refl

-- what is known between two steps
pub record Known (p : Place) (h : ℕ) (bytes directory : List ℕ) (k room keys_long corners_long : ℕ) (t : Tally) (keys corners trailList : List ℕ) : Type 0 where
  pub ready : Ready h bytes directory
  pub left : List ℕ
  pub underway : Underway p h bytes (ready_sound ready) k left (pending_in t.pending keys corners)
  pub opened_is : t.opened ≡ length (keep is_box left)
  pub handed_is : t.handed ≡ length (keep is_joint left)
  pub handed_are : handed_in t.handed keys ≡ keep is_joint left
  pub trail_is : trailList ≡ adds (replicate room 0) 0 (map id_of (keep is_box left))
  pub in_keys : t.pending ≤ length keys
  pub in_corners : t.pending ≤ length corners
  pub keys_room : max 1 (length (joints h bytes)) ≤ length keys
  pub corners_room : max 1 (length (joints h bytes)) ≤ length corners
  pub keys_are : length keys ≡ keys_long
  pub corners_are : length corners ≡ corners_long
  pub heaped : Heaped t.pending keys

-- before the first step
pub known_start : {p : Place} {bytes directory : List ℕ} {k : ℕ} {t : Tally} {keys corners trailList : List ℕ} (b : Begins p bytes directory k t keys corners trailList)
    → Known p b.height bytes directory k (length trailList) (length keys) (length corners) t keys corners trailList
unfolding keep adds handed_in
known_start {p} {bytes} {k = k} {keys = keys} {corners = corners} b =
    rw b.fresh (record {
      ready = b.ready;
      left = [];
      underway = rw b.whole (underway_start p b.height bytes (ready_sound b.ready) k);
      opened_is = refl;
      handed_is = refl;
      handed_are = refl;
      trail_is = b.clear;
      in_keys = omega (arith, b.keys_room);
      in_corners = omega (arith, b.corners_room);
      keys_room = b.keys_room;
      corners_room = b.corners_room;
      keys_are = refl;
      corners_are = refl;
      heaped = λ j lo hi. absurd (omega arith);
    })

module _ {p : Place} {h : ℕ} {bytes directory : List ℕ} {k room kl cl : ℕ} {t : Tally} {keys corners trailList : List ℕ} (s : Known p h bytes directory k room kl cl t keys corners trailList) where
  -- a step may be taken
  pub known_goes : 0 < t.pending → t.handed < k → Goes p bytes directory t keys corners
  known_goes some fewer =
      record {
        searching = record {
          height = h;
          joints = length (joints h bytes);
          groups = groups h bytes;
          wanted = k;
          left = s.left;
          sound = ready_sound s.ready;
          ready = s.ready;
          underway = s.underway;
          handed_out = sym (joints_kept s.left) ∙ sym s.handed_is;
          counted = omega (arith, boxes_kept s.left, joints_kept s.left, s.opened_is, s.handed_is);
          in_keys = s.in_keys;
          in_corners = s.in_corners;
          keys_room = s.keys_room;
          corners_room = s.corners_room;
          heaped = s.heaped;
        };
        fewer = fewer;
        some = some;
      }

  -- a step keeps it
  pub known_next : {t' : Tally} {keys' corners' trail' : List ℕ} → 0 < t.pending → t.handed < k → Stepped p bytes t keys corners trailList t' keys' corners' trail'
      → Known p h bytes directory k room kl cl t' keys' corners' trail'
  unfolding count total
  known_next {t'} {keys'} {corners'} {trail'} some fewer d =
      let sound = ready_sound s.ready in
      let x = d.key in
      let c = d.corner in
      let pend = pending_in t.pending keys corners in
      let there : 1 ≤ count (pack x c) pend = omega (arith, d.leaves (pack x c), same_self (pack x c)) in
      let wanted : joints_in s.left < k = omega (arith, joints_kept s.left, s.handed_is) in
      let least = least_key t.pending keys corners x s.in_keys s.in_corners d.smallest in
      let many : length d.rest ≡ t.pending - 1 =
      omega (arith, total_bag (λ y. 1) pend (pack x c ∷ d.rest) d.leaves, total_one pend, total_one d.rest, pending_long t.pending keys corners s.in_keys s.in_corners) in
      let space = pending_room p h bytes sound k s.underway x c d.corner_fits there d.rest wanted least d.leaves in
      let boxes : keep is_box (s.left ++ x ∷ []) ≡ keep is_box s.left ++ keep is_box (x ∷ []) = keep_append is_box s.left (x ∷ []) in
      let found : keep is_joint (s.left ++ x ∷ []) ≡ keep is_joint s.left ++ keep is_joint (x ∷ []) = keep_append is_joint s.left (x ∷ []) in
      record {
        ready = s.ready;
        left = s.left ++ x ∷ [];
        underway = pending_next p h bytes sound k s.underway x c d.corner_fits there d.rest wanted least d.leaves (pending_in t'.pending keys' corners') d.comes;
        opened_is = rw (boxes, length-append) (d.opened_is ∙ ap (λ (n : ℕ). n + length (keep is_box (x ∷ []))) s.opened_is);
        handed_is = rw (found, length-append) (d.handed_is ∙ ap (λ (n : ℕ). n + length (keep is_joint (x ∷ []))) s.handed_is);
        handed_are = rw found (d.handed_are ∙ ap (λ (l : List ℕ). l ++ keep is_joint (x ∷ [])) s.handed_are);
        trail_is = d.trail_is ∙ trail_more (replicate room 0) s.left x t.opened trailList s.opened_is s.trail_is;
        in_keys = omega (arith, d.pending_is, d.keys_long, s.keys_room);
        in_corners = omega (arith, d.pending_is, d.corners_long, s.corners_room);
        keys_room = omega (arith, d.keys_long, s.keys_room);
        corners_room = omega (arith, d.corners_long, s.corners_room);
        keys_are = d.keys_long ∙ s.keys_are;
        corners_are = d.corners_long ∙ s.corners_are;
        heaped = d.heaped;
      }

  -- the trail list keeps its length
  pub known_long : length trailList ≡ room
  known_long = ap length s.trail_is ∙ length_adds (replicate room 0) 0 (map id_of (keep is_box s.left)) ∙ length-replicate room 0

  -- the boxes opened so far are the beginning of the trail
  pub trail_so_far : 1 ≤ k → t.opened ≤ length (trail p h bytes k)
  trail_so_far one =
      let sound = ready_sound s.ready in
      let j = length (joints h bytes) in
      let b = trail_begun p h bytes (served_groups h bytes j (groups h bytes) sound) (served_height h bytes j (groups h bytes) sound) k one s.underway.search s.underway.wanted in
      omega (arith, ap length b.1, length-append (map id_of (keep is_box s.left)) b.0, length-map (keep is_box s.left) id_of, s.opened_is)

  -- at the end, with the trail within its room, all is found
  pub known_reached : 1 ≤ k → (t.pending ≡ 0) ⊎ (k ≤ t.handed) → t.opened ≤ room → Reached p h bytes k t keys trailList
  known_reached one end fits =
      let sound = ready_sound s.ready in
      let stop : (k ≤ joints_in s.left) ⊎ (map entry_in (pending_in t.pending keys corners) ≡ []) =
      ⊎_elim (λ z. inr (rw z refl)) (λ le. inl (omega (arith, joints_kept s.left, s.handed_is))) end in
      let answer = served_answer p h bytes sound k s.underway.search s.underway.wanted stop in
      let way = served_trail p h bytes sound k one s.underway.search s.underway.wanted stop in
      let many : length (trail p h bytes k) ≡ t.opened = ap length (sym way) ∙ length-map (keep is_box s.left) id_of ∙ sym s.opened_is in
      let same : trailList ≡ adds (replicate room 0) 0 (trail p h bytes k) = rw (← way) s.trail_is in
      record {
        opened = sym many;
        handed = s.handed_is ∙ ap length answer;
        answer = s.handed_are ∙ answer;
        in_trail = rw known_long (same ∙ adds_zeros room (trail p h bytes k) (omega arith));
      }

  -- the end of the search
  pub known_ends : 1 ≤ k → (t.pending ≡ 0) ⊎ ((k ≤ t.handed) ⊎ (room < t.opened)) → Ends p h bytes k room t keys corners trailList kl cl
  known_ends one end =
      record {
        enough = λ fits. known_reached one (⊎_elim (λ z. inl z) (λ w. ⊎_elim (λ le. inr le) (λ more. absurd (omega arith)) w) end) fits;
        short = λ more. omega (arith, trail_so_far one);
        keys_are = s.keys_are;
        corners_are = s.corners_are;
        trail_are = known_long;
        handed_fits = omega (arith, served_room p h bytes (ready_sound s.ready) s.underway.search, joints_kept s.left, s.handed_is, s.keys_room);
      }

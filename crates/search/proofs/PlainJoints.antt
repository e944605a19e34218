-- The answer of a question without keys: the keys of the joints in order are the joints by squared distance, then row, then column.
use Prim.Native.Nat.{ℕ, ◌^◌, ◌≤◌, ◌<◌, min}
use mathlib.Core.Bool.{true, ◌&&◌}
use mathlib.Core.Path.{◌≡◌, refl, sym, ap, ◌∙◌}
use mathlib.Core.Logic.{inl, inr, ⊎_elim}
use mathlib.Core.List.Memᴰ
use mathlib.Core.List.{List, [], ◌∷◌, map}
use native.Mathlib.Omega.{arith}
use native.Mathlib.Nat.{eq-or-lt_of_le}
use lib.ListN.{length, take, length-map, length-take}
use lib.Dec.{eqb}
use lib.Pow.{pow_mono}
use borrow.Author.Tests.{eqb-true, eq-eqb}
use Rattle.refusal.proofs.Tests.{both}
use Rattle.order.specs.Order.{sort}
use Rattle.order.proofs.Cases.{test_cases}
use Rattle.order.proofs.Total.{All, all_nil, all_cons, total_one, total_sort}
use Rattle.order.proofs.Bag.{count-sort}
use Rattle.order.proofs.Sorted.{sorted_sort}
use Rattle.order.proofs.Sets.{In, Rising, has_sort}
use Rattle.board.specs.Levels.{Box, joints}
use Rattle.board.specs.Code.{code, code_of}
use Rattle.board.specs.Member.{among, stored}
use Rattle.board.proofs.Codes.{box_path, codes}
use Rattle.board.proofs.Children.{rising_codes}
use Rattle.board.proofs.Under.{Small, joints_on_board}
use Rattle.search.specs.Near.{Place, near}
use Rattle.search.specs.Keys.{cell_id, joint_key, distance_of, row_of, col_of}
use Rattle.search.specs.Question.{joint_keys, answer_keys}
use Rattle.search.specs.Plain.{◌∈◌, Joint, IsJoint, Before, FirstJoints, distance}
use Rattle.search.proofs.Keys.{Earlier, less_earlier, joint_says, joint_cell}
use Rattle.search.proofs.PlainDistances.{distance_plain}
use Rattle.search.proofs.PlainLists.{all_member, in_member, member_in, member_map, map_member, rising_once, sorted_once, take_in, rising_take, take_others, rising_in_order}

-- a key as a place of the answer list: what it says of row, column and squared distance
abbrev pub answer_in : ℕ → Joint
answer_in x = record { row = row_of x; column = col_of x; distance = distance_of x }

-- a cell as a place of the answer list
abbrev joint_at : Place → Box → Joint
joint_at p b = record { row = b.row; column = b.col; distance = distance p b.row b.col }

-- a place of the answer list is its three numbers
joint_path : (f g : Joint) → f.row ≡ g.row → f.column ≡ g.column → f.distance ≡ g.distance → f ≡ g
joint_path f g r c d = λ i. record { row = r i; column = c i; distance = d i }

-- a cell whose row and column have room in a key
record Fitting (b : Box) : Type 0 where
  row : b.row < 2 ^ 12
  col : b.col < 2 ^ 12

-- its key says what it is
key_is : (p : Place) {b : Box} → Fitting b → answer_in (joint_key p b) ≡ joint_at p b
key_is p {b} s =
    let c = joint_cell p b s.row s.col in
    joint_path _ _ c.row c.col ((joint_says p b s.row s.col).distance ∙ distance_plain p b)

-- so keys in order are joints in order
keys_before : (p : Place) {b c : Box} → Fitting b → Fitting c → joint_key p b < joint_key p c → Before (joint_at p b) (joint_at p c)
unfolding joint_key
keys_before p {b} {c} s t less = go (less_earlier (near p 1 b) (near p 1 c) (record { kind = omega arith; id = omega arith }) (record { kind = omega arith; id = omega arith }) less)
  where
    same : near p 1 b ≡ near p 1 c → distance p b.row b.col ≡ distance p c.row c.col
    same e = sym (distance_plain p b) ∙ e ∙ distance_plain p c

    go : Earlier (near p 1 b) 1 (cell_id b) (near p 1 c) 1 (cell_id c) → Before (joint_at p b) (joint_at p c)
    go (Earlier.by_distance d) = Before.by_distance (rw (distance_plain p b, distance_plain p c) at d)
    go (Earlier.by_kind e k) = absurd (omega arith)
    go (Earlier.by_id e k i) = ⊎_elim (λ r. Before.by_column (same e) r (omega arith)) (λ r. Before.by_row (same e) r) (eq-or-lt_of_le {n = b.row} {m = c.row} (omega arith))

-- a cell that is one of a list is among it
pub member_among : {b : Box} {l : List Box} → b ∈ l → among b.row b.col l ≡ true
unfolding among
member_among {b} (Memᴰ.head {x = x} {xs = xs} e) = rw (e, eq-eqb x.row x.row refl, eq-eqb x.col x.col refl)
member_among {b} (Memᴰ.tail {x = x} {xs = xs} m) = test_cases (eqb b.row x.row && eqb b.col x.col) (λ e. rw e) (λ e. rw e (member_among m))

-- and back
pub among_member : (r c : ℕ) (l : List Box) → among r c l ≡ true → record { row = r; col = c } ∈ l
unfolding among
among_member r c [] h = absurd (let z : ◌≡◌ {A = ℕ} 0 1 = cc in omega arith)
among_member r c (b ∷ bs) h =
    test_cases (eqb r b.row && eqb c b.col)
    (λ e. let q = both (eqb r b.row) (eqb c b.col) e in Memᴰ.head (box_path (record { row = r; col = c }) b (eqb-true r b.row q.0) (eqb-true c b.col q.1)))
    (λ e. Memᴰ.tail (among_member r c bs (rw e at h)))

-- the codes of cells, from their keys
key_codes : (p : Place) (h : ℕ) {bs : List Box} → 2 ^ h ≤ 2 ^ 12 → All (Small h) bs → map (λ x. code h (row_of x) (col_of x)) (map (joint_key p) bs) ≡ map (code_of h) bs
key_codes p h le all_nil = refl
key_codes p h le (all_cons {a = b} s t) = let c = joint_cell p b (omega arith) (omega arith) in rw (c.row, c.col, key_codes p h le t)

module _ (p : Place) (h : ℕ) (bytes : List ℕ) (low : h ≤ 12) where
  -- joints have room in keys
  fitting : {b : Box} → b ∈ joints h bytes → Fitting b
  fitting m = let s = all_member (joints_on_board bytes h) m in let most : 2 ^ h ≤ 2 ^ 12 = pow_mono {i = h} {j = 12} low in record { row = omega arith; col = omega arith }

  -- all keys in order, each once
  joints_rise : Rising (sort (joint_keys p h bytes))
  unfolding joint_keys codes
  joints_rise =
      let most : 2 ^ h ≤ 2 ^ 12 = pow_mono {i = h} {j = 12} low in
      let keys = map (joint_key p) (joints h bytes) in
      let once = rising_once (λ x. code h (row_of x) (col_of x)) keys (rw (key_codes p h most (joints_on_board bytes h)) (rising_codes h bytes)) in
      sorted_once (sort keys) (sorted_sort keys) (λ x. omega (arith, count-sort x keys, once x))

  -- each is a joint's
  key_of : (x : ℕ) → In x (sort (joint_keys p h bytes)) → (b : Box) × (b ∈ joints h bytes) × (x ≡ joint_key p b)
  unfolding joint_keys
  key_of x i = map_member (joint_key p) (joints h bytes) (in_member x _ (sym (has_sort x (map (joint_key p) (joints h bytes))) ∙ i))

  -- and each joint has one
  of_joint : {b : Box} → b ∈ joints h bytes → In (joint_key p b) (sort (joint_keys p h bytes))
  unfolding joint_keys
  of_joint {b} m = has_sort (joint_key p b) (map (joint_key p) (joints h bytes)) ∙ member_in (member_map (joint_key p) m)

  -- there are as many
  keys_many : length (sort (joint_keys p h bytes)) ≡ length (joints h bytes)
  unfolding joint_keys
  keys_many =
      let keys = map (joint_key p) (joints h bytes) in
      sym (total_one (sort keys)) ∙ total_sort (λ x. 1) keys ∙ total_one keys ∙ length-map (joints h bytes) (joint_key p)

  -- two keys in order are two joints in order
  in_turn : (x y : ℕ) → In x (sort (joint_keys p h bytes)) → In y (sort (joint_keys p h bytes)) → x < y → Before (answer_in x) (answer_in y)
  in_turn x y i j less =
      let b = key_of x i in let c = key_of y j in let s = fitting b.1 in let t = fitting c.1 in
      rw (b.2, c.2, key_is p s, key_is p t) (keys_before p s t (rw (b.2, c.2) at less))

  -- a key is a stored cell with its squared distance
  is_joint_lem : (x : ℕ) → In x (sort (joint_keys p h bytes)) → IsJoint p h bytes (answer_in x)
  unfolding stored
  is_joint_lem x i = let b = key_of x i in rw (b.2, key_is p (fitting b.1)) (record { is_stored = member_among b.1; measured = refl })

  -- and each of those has one
  joint_key_lem : (f : Joint) → IsJoint p h bytes f → (x : ℕ) × In x (sort (joint_keys p h bytes)) × (answer_in x ≡ f)
  unfolding stored
  joint_key_lem f j =
      let m = among_member f.row f.column (joints h bytes) j.is_stored in
      (joint_key p (record { row = f.row; col = f.column }), of_joint m, key_is p (fitting m) ∙ joint_path _ f refl refl (sym j.measured))

  -- the answer: the first k joints by squared distance, then row, then column
  pub answer_first : (k : ℕ) → FirstJoints p h bytes k (map answer_in (answer_keys p h bytes k))
  unfolding answer_keys
  answer_first k =
      let l = sort (joint_keys p h bytes) in
      let mine : (x : ℕ) → In x (take k l) → In x l = λ x i. take_in k x l i in
      record {
        in_order = rising_in_order Before answer_in (take k l) (rising_take k l joints_rise) (λ x y i j. in_turn x y (mine x i) (mine y j));
        joints_only = λ f m. let x = map_member answer_in (take k l) m in rw x.2 (is_joint_lem x.0 (mine x.0 (member_in x.1)));
        others_after = λ f j.
            let x = joint_key_lem f j in
            ⊎_elim
            (λ i. inl (rw x.2 at (member_map answer_in (in_member x.0 (take k l) i))))
            (λ after. inr (λ g m. let y = map_member answer_in (take k l) m in let i = member_in y.1 in
            rw (y.2, ← x.2) (in_turn y.0 x.0 (mine y.0 i) x.1 (after y.0 i))))
            (take_others k l joints_rise x.0 x.1);
        many = length-map (take k l) answer_in ∙ length-take k l ∙ ap (min k) keys_many;
      }

-- no joint comes before another and after it
pub before_one_way : (f g : Joint) → Before f g → Before g f → ⊥
before_one_way f g (Before.by_distance d) (Before.by_distance e) = omega arith
before_one_way f g (Before.by_distance d) (Before.by_row e r) = omega arith
before_one_way f g (Before.by_distance d) (Before.by_column e r c) = omega arith
before_one_way f g (Before.by_row d r) (Before.by_distance e) = omega arith
before_one_way f g (Before.by_row d r) (Before.by_row e q) = omega arith
before_one_way f g (Before.by_row d r) (Before.by_column e q c) = omega arith
before_one_way f g (Before.by_column d r c) (Before.by_distance e) = omega arith
before_one_way f g (Before.by_column d r c) (Before.by_row e q) = omega arith
before_one_way f g (Before.by_column d r c) (Before.by_column e q b) = omega arith

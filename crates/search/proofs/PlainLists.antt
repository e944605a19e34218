-- Lists in order, by their members: what is one of a list, what a map and a beginning keep, and that order and members determine a list.
use Prim.Native.Nat.{ℕ, zero, suc, ◌≤◌, ◌<◌}
use mathlib.Core.Path.{◌≡◌, refl, sym, ap}
use mathlib.Core.Logic.{◌⊎◌, inl, inr, ⊎_elim}
use mathlib.Core.List.Memᴰ
use mathlib.Core.List.{List, [], ◌∷◌, map}
use native.Mathlib.Omega.{arith}
use lib.ListN.{length, get_or, take}
use Rattle.order.specs.Bag.{count}
use Rattle.order.proofs.Cases.{leb_cases, same_cases, same_self}
use Rattle.order.proofs.Total.{All, all_nil, all_cons}
use Rattle.order.proofs.Bag.{count_take_le}
use Rattle.order.proofs.Sorted.{Sorted}
use Rattle.order.proofs.Sets.{In, Rising, has_here, in_cons, in_tail, not_in_nil, in_count, count_in, in_map}
use Rattle.search.specs.Plain.{◌∈◌, InOrder, Last}

-- ---- what is one of a list

-- of all of a list
pub all_member : {A : Type 0} {P : A → Type 0} {x : A} {l : List A} → All P l → x ∈ l → P x
all_member all_nil m = absurd (Memᴰ.not-nil m)
all_member (all_cons h t) (Memᴰ.head e) = rw e h
all_member (all_cons h t) (Memᴰ.tail m) = all_member t m

-- a list that is not empty has one
pub some_member : {A : Type 0} (l : List A) → 1 ≤ length l → (x : A) × (x ∈ l)
some_member [] some = absurd (omega arith)
some_member (x ∷ xs) some = (x, Memᴰ.head refl)

-- it stands at a place
pub member_place : {A : Type 0} {x : A} (l : List A) (d : A) → x ∈ l → (i : ℕ) × (i < length l) × (get_or l i d ≡ x)
member_place [] d m = absurd (Memᴰ.not-nil m)
member_place (y ∷ ys) d (Memᴰ.head e) = (0, omega arith, sym e)
member_place (y ∷ ys) d (Memᴰ.tail m) = let r = member_place ys d m in (suc r.0, omega (arith, r.1), r.2)

-- numbers: the two ways to say it
pub in_member : (x : ℕ) (l : List ℕ) → In x l → x ∈ l
in_member x [] h = absurd (not_in_nil x h)
in_member x (y ∷ ys) h = ⊎_elim (λ e. Memᴰ.head e) (λ k. Memᴰ.tail (in_member x ys k)) (in_cons x y ys h)

pub member_in : {x : ℕ} {l : List ℕ} → x ∈ l → In x l
member_in {x} (Memᴰ.head {x = y} {xs = ys} e) = rw e (has_here y ys)
member_in {x} (Memᴰ.tail {x = y} {xs = ys} m) = in_tail x y ys (member_in m)

module _ {A B : Type 0} (f : A → B) where
  -- after a function
  pub member_map : {x : A} {l : List A} → x ∈ l → f x ∈ map f l
  member_map (Memᴰ.head e) = Memᴰ.head (ap f e)
  member_map (Memᴰ.tail m) = Memᴰ.tail (member_map m)

  -- each comes from one
  pub map_member : {z : B} (l : List A) → z ∈ map f l → (x : A) × (x ∈ l) × (z ≡ f x)
  map_member [] m = absurd (Memᴰ.not-nil m)
  map_member (x ∷ xs) (Memᴰ.head e) = (x, Memᴰ.head refl, e)
  map_member (x ∷ xs) (Memᴰ.tail m) = let r = map_member xs m in (r.0, Memᴰ.tail r.1, r.2)

  -- the last comes from the last
  pub last-map : (x : A) (l : List A) → Last x l → Last (f x) (map f l)
  last-map x [] h = h
  last-map x (y ∷ []) h = ap f h
  last-map x (y ∷ z ∷ zs) h = last-map x (z ∷ zs) h

-- there is one last
pub last_one : {A : Type 0} (x y : A) (l : List A) → Last x l → Last y l → x ≡ y
last_one x y [] h k = absurd h
last_one x y (z ∷ []) h k = cc
last_one x y (z ∷ w ∷ ws) h k = last_one x y (w ∷ ws) h k

-- ---- numbers that rise

-- a list that rises after a function has no number twice
pub rising_once : (f : ℕ → ℕ) (l : List ℕ) → Rising (map f l) → (x : ℕ) → count x l ≤ 1
unfolding count
rising_once f [] r x = omega arith
rising_once f (y ∷ ys) r x =
    leb_cases 1 (count x ys)
    (λ h e. same_cases x y
    (λ q s. absurd (let b : f y < f x = r.0 (f x) (in_map f x ys (count_in x ys h)) in omega (arith, ap f q)))
    (λ n s. omega (arith, rising_once f ys r.1 x)))
    (λ h e. same_cases x y (λ q s. omega arith) (λ n s. omega arith))

-- what is sorted and has no number twice rises
pub sorted_once : (l : List ℕ) → Sorted l → ((x : ℕ) → count x l ≤ 1) → Rising l
unfolding count
sorted_once [] s o = tt
sorted_once (x ∷ xs) s o = (
  (λ z i. let c = in_count z xs i in same_cases x z (λ q e. absurd (omega (arith, o z, same_self z, ap (count z) (ap (λ (y : ℕ). y ∷ xs) q)))) (λ n e. omega (arith, s.0.of z c))),
  sorted_once xs s.1 (λ y. omega (arith, o y)),
)

-- what a beginning has
pub take_in : (k z : ℕ) (l : List ℕ) → In z (take k l) → In z l
take_in k z l h = count_in z l (omega (arith, in_count z (take k l) h, count_take_le k z l))

-- a beginning of what rises
pub rising_take : (k : ℕ) (l : List ℕ) → Rising l → Rising (take k l)
rising_take zero l r = tt
rising_take (suc k) [] r = tt
rising_take (suc k) (x ∷ xs) r = ((λ z h. r.0 z (take_in k z xs h)), rising_take k xs r.1)

-- what is not in it comes after it
pub take_others : (k : ℕ) (l : List ℕ) → Rising l → (z : ℕ) → In z l → In z (take k l) ⊎ ((a : ℕ) → In a (take k l) → a < z)
take_others zero l r z h = inr (λ a i. absurd (not_in_nil a i))
take_others (suc k) [] r z h = absurd (not_in_nil z h)
take_others (suc k) (x ∷ xs) r z h = ⊎_elim (λ e. inl (rw e (has_here x (take k xs)))) (λ i. go i (take_others k xs r.1 z i)) (in_cons z x xs h)
  where
    go : In z xs → In z (take k xs) ⊎ ((a : ℕ) → In a (take k xs) → a < z) → In z (x ∷ take k xs) ⊎ ((a : ℕ) → In a (x ∷ take k xs) → a < z)
    go i (inl t) = inl (in_tail z x (take k xs) t)
    go i (inr f) = inr (λ a j. ⊎_elim (λ e. rw e (r.0 z i)) (f a) (in_cons a x (take k xs) j))

-- a function under which rising numbers come in order
pub rising_in_order : {A : Type 0} (before : A → A → Type 0) (f : ℕ → A) (l : List ℕ) → Rising l → ((x y : ℕ) → In x l → In y l → x < y → before (f x) (f y)) → InOrder before (map f l)
rising_in_order before f [] r h = tt
rising_in_order before f (x ∷ xs) r h = (
  λ z m. let y = map_member f xs m in let i = member_in y.1 in rw y.2 (h x y.0 (has_here x xs) (in_tail y.0 x xs i) (r.0 y.0 i)),
  rising_in_order before f xs r.1 (λ a b i j. h a b (in_tail a x xs i) (in_tail b x xs j)),
)

-- ---- order and members determine a list

module _ {A : Type 0} (before : A → A → Type 0) (one_way : (x y : A) → before x y → before y x → ⊥) where
  -- of two lists in order, where each has the other's first one, or has it after its own first, the first ones are one
  same_first : (x y : A) → (x ≡ y) ⊎ before y x → (y ≡ x) ⊎ before x y → x ≡ y
  same_first x y (inl e) k = e
  same_first x y (inr b) (inl e) = sym e
  same_first x y (inr b) (inr c) = absurd (one_way x y c b)

  -- one of a list in order is the first or comes after it
  first_or_after : (x y : A) (ys : List A) → InOrder before (y ∷ ys) → x ∈ (y ∷ ys) → (x ≡ y) ⊎ before y x
  first_or_after x y ys o m = ⊎_elim inl (λ i. inr (o.0 x i)) (Memᴰ.cases_cons m)

  -- one that comes after the first is in the rest
  in_rest : (x z : A) (xs : List A) → before x z → z ∈ (x ∷ xs) → z ∈ xs
  in_rest x z xs b m = ⊎_elim (λ e. absurd (let c : before x x = rw e at b in one_way x x c c)) (λ i. i) (Memᴰ.cases_cons m)

  -- two lists in order with the same members are one
  pub in_order_one : (xs ys : List A) → InOrder before xs → InOrder before ys → ((z : A) → z ∈ xs → z ∈ ys) → ((z : A) → z ∈ ys → z ∈ xs) → xs ≡ ys
  in_order_one [] [] o q f g = refl
  in_order_one [] (y ∷ ys) o q f g = absurd (Memᴰ.not-nil (g y (Memᴰ.head refl)))
  in_order_one (x ∷ xs) [] o q f g = absurd (Memᴰ.not-nil (f x (Memᴰ.head refl)))
  in_order_one (x ∷ xs) (y ∷ ys) o q f g =
      let e : x ≡ y = same_first x y (first_or_after x y ys q (f x (Memᴰ.head refl))) (first_or_after y x xs o (g y (Memᴰ.head refl))) in
      cc (
        e,
        in_order_one xs ys o.1 q.1
            (λ z m. in_rest y z ys (rw e at (o.0 z m)) (f z (Memᴰ.tail m)))
            (λ z m. in_rest x z xs (rw (← e) at (q.0 z m)) (g z (Memᴰ.tail m))),
      )

  -- the first of those with P, in order: each has P, and another with P comes after each
  pub record Firsts (P : A → Type 0) (xs : List A) : Type 0 where
    pub in_order : InOrder before xs
    pub only : (z : A) → z ∈ xs → P z
    pub others : (z : A) → P z → (z ∈ xs) ⊎ ((y : A) → y ∈ xs → before y z)

  -- the first of all, and the first of those that come after it
  rest_firsts : (P : A → Type 0) (x : A) (xs : List A) → Firsts P (x ∷ xs) → Firsts (λ z. P z × before x z) xs
  rest_firsts P x xs f = record {
    in_order = f.in_order.1;
    only = λ z m. (f.only z (Memᴰ.tail m), f.in_order.0 z m);
    others = λ z h. ⊎_elim (λ m. inl (in_rest x z xs h.1 m)) (λ b. inr (λ y m. b y (Memᴰ.tail m))) (f.others z h.0);
  }

  -- as many first ones are one list
  pub firsts_one : (P : A → Type 0) (xs ys : List A) → Firsts P xs → Firsts P ys → length xs ≡ length ys → xs ≡ ys
  firsts_one P [] [] f g n = refl
  firsts_one P [] (y ∷ ys) f g n = absurd (omega arith)
  firsts_one P (x ∷ xs) [] f g n = absurd (omega arith)
  firsts_one P (x ∷ xs) (y ∷ ys) f g n =
      let e : x ≡ y = same_first x y (place x y ys g (f.only x (Memᴰ.head refl))) (place y x xs f (g.only y (Memᴰ.head refl))) in
      cc (e, firsts_one (λ z. P z × before x z) xs ys (rest_firsts P x xs f) (rw (← e) at (rest_firsts P y ys g)) (omega arith))
    where
      place : (a b : A) (bs : List A) → Firsts P (b ∷ bs) → P a → (a ≡ b) ⊎ before b a
      place a b bs g h = ⊎_elim (first_or_after a b bs g.in_order) (λ k. inr (k b (Memᴰ.head refl))) (g.others a h)

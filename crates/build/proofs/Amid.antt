-- A level that is being written, cell by cell: the invariant of the loop over the cells, how a turn keeps it, and what is written at the end.
use Prim.Native.Nat.{ℕ, suc, ◌+◌, ◌*◌, ◌/◌, ◌^◌, ◌<◌}
use mathlib.Core.Path.{◌≡◌, refl, sym, ap, ◌∙◌}
use mathlib.Core.Logic.{◌⊎◌, inl, inr}
use mathlib.Core.List.{List, [], ◌∷◌, ◌++◌, map, map-append, append_assoc, append-nil}
use native.Mathlib.Omega.{arith}
use lib.ListN.{length, get_or, length-append, length-map}
use Rattle.order.specs.Order.{unless_first, distinct, has}
use Rattle.order.proofs.Sets.{In, Rising, has_here, in_cons, not_in_nil, in_append_right, map_agree, not_in}
use Rattle.build.specs.Build.{boxes_of, group_of, pack}
use Rattle.build.specs.Writing.{put_group, in_byte, fit, level_of, worth, Written}
use Rattle.build.proofs.Below.{below-append, below_one}
use Rattle.build.proofs.Groups.{group_of_same, group_of_small}
use Rattle.build.proofs.Boxes.{in_boxes_of, boxes_of_in, rising_boxes_of, div_up}
use Rattle.build.proofs.Fit.{fit_put, put_byte, put-length}
use Rattle.build.proofs.Level.{boxes_same, boxes_new, group_of_more, group_of_other}

-- nothing is written yet
pub written_none : (bytes : List ℕ) → bytes ≡ fit (length bytes) [] → Written [] 0 bytes
unfolding pack
written_none bytes e = record { next = refl; small = λ i. omega arith; has = e }

-- one group more is written
pub written_put : {gs : List ℕ} {g : ℕ} {bytes : List ℕ} (bits : ℕ) → Written gs g bytes → bits < 16 → Written (gs ++ bits ∷ []) (g + 1) (put_group bytes g bits)
written_put {gs} {g} {bytes} bits w few = record {
  next = rw length-append (omega (arith, w.next));
  small = below-append 16 gs (bits ∷ []) w.small (below_one 16 bits (omega arith) few);
  has =
      ap (λ (b : List ℕ). put_group b g bits) w.has ∙ ap (λ (k : ℕ). put_group (fit (length bytes) (pack gs)) k bits) w.next
      ∙ sym (fit_put (length bytes) gs bits) ∙ ap (λ (n : ℕ). fit n (pack (gs ++ bits ∷ []))) (sym (put-length bytes g bits));
}

-- and its byte stays a byte
pub written_byte : {gs : List ℕ} {g : ℕ} {bytes : List ℕ} (bits : ℕ) → Written gs g bytes → bits < 16 → g / 2 < length bytes → get_or bytes (g / 2) 0 + in_byte g bits < 256
written_byte {gs} {g} {bytes} bits w few room =
    rw (w.has, w.next) (put_byte (length bytes) gs bits (below-append 16 gs (bits ∷ []) w.small (below_one 16 bits (omega arith) few)) (rw w.next at room))

-- the cells of p are seen; the boxes of `closed` have their groups behind gs, and bits is the group, so far, of the box that child is in
pub record Amid (gs : List ℕ) (s : ℕ) (p : List ℕ) (g child bits : ℕ) (bytes : List ℕ) : Type 0 where
  pub front : List ℕ
  pub last : ℕ
  pub closed : List ℕ
  pub seen : p ≡ front ++ last ∷ []
  pub here : child ≡ last / 4 ^ s
  pub boxes : boxes_of (suc s) p ≡ closed ++ child / 4 ∷ []
  pub held : bits ≡ group_of (boxes_of s p) (child / 4)
  pub put : Written (gs ++ map (group_of (boxes_of s p)) closed) g bytes
  pub few : length closed < length p

-- the first cell opens the first box
pub amid_start : (gs : List ℕ) (s c g : ℕ) (bytes : List ℕ) → Written gs g bytes → Amid gs s (c ∷ []) g (c / 4 ^ s) (worth (c / 4 ^ s)) bytes
unfolding boxes_of distinct unless_first
amid_start gs s c g bytes w = record {
  front = [];
  last = c;
  closed = [];
  seen = refl;
  here = refl;
  boxes = rw div_up;
  held = sym (group_of_more [] (c / 4 ^ s / 4) (c / 4 ^ s) refl (unfold has in refl) ∙ unfold group_of has in omega arith);
  put = rw append-nil w;
  few = omega arith;
}

-- what stands before the last of a rising list is less
before_last : (ys : List ℕ) (y z : ℕ) → Rising (ys ++ y ∷ []) → In z ys → z < y
before_last [] y z r h = absurd (not_in_nil z h)
before_last (x ∷ ys) y z r h = go (before_last ys y z r.1) (in_cons z x ys h)
  where
    go : (In z ys → z < y) → (z ≡ x) ⊎ In z ys → z < y
    go f (inl e) = rw e (r.0 y (in_append_right y ys (y ∷ []) (has_here y [])))
    go f (inr k) = f k

-- a box of which no quarter is there has no one in its group
group_of_none : (ys : List ℕ) (x : ℕ) → ((y : ℕ) → In y ys → y / 4 ≡ x → ⊥) → group_of ys x ≡ 0
group_of_none ys x f =
    group_of_same ys [] x (λ q k. not_in (4 * x + q) ys (λ h. f (4 * x + q) h (omega arith)) ∙ unfold has in refl) ∙ unfold group_of has in refl

module _ {gs : List ℕ} {s : ℕ} {p : List ℕ} {g child bits : ℕ} {bytes : List ℕ} (m : Amid gs s p g child bits bytes) where
  -- a group is four bits
  pub amid_bits : bits < 16
  amid_bits = rw m.held (group_of_small _ _)

  -- its number is behind the groups that were written, by fewer than the cells seen
  pub amid_number : (g ≡ length gs + length m.closed) × (length m.closed < length p)
  amid_number = (m.put.next ∙ length-append gs _ ∙ ap (λ (k : ℕ). length gs + k) (length-map m.closed _), m.few)

  -- putting it leaves a byte
  pub amid_byte : g / 2 < length bytes → get_or bytes (g / 2) 0 + in_byte g bits < 256
  amid_byte room = written_byte bits m.put amid_bits room

  -- the groups of the closed boxes and of the open one
  amid_put : Written (gs ++ map (group_of (boxes_of s p)) (boxes_of (suc s) p)) (g + 1) (put_group bytes g bits)
  amid_put = rw (m.boxes, map-append, ← m.held, ← append_assoc) (written_put bits m.put amid_bits)

  -- these are the level's
  pub amid_end : Written (gs ++ level_of s p) (g + 1) (put_group bytes g bits)
  unfolding level_of
  amid_end = amid_put

  module _ (c : ℕ) (r : Rising (p ++ c ∷ [])) where
    -- the boxes of the cells seen and the next one rise
    rising_next : (t : ℕ) → Rising (boxes_of t (p ++ c ∷ []))
    rising_next t = rising_boxes_of t (p ++ c ∷ []) r

    -- one cell more is seen
    longer : length (p ++ c ∷ []) ≡ length p + 1
    longer = length-append p (c ∷ [])

    -- a quarter that is not the last one's is new
    fresh : (c / 4 ^ s ≡ child → ⊥) → boxes_of s (p ++ c ∷ []) ≡ boxes_of s p ++ c / 4 ^ s ∷ []
    fresh n = rw m.seen (boxes_new s m.front m.last c (λ q. n (sym q ∙ sym m.here)))

    -- and no box before it has it
    new_quarter : boxes_of s (p ++ c ∷ []) ≡ boxes_of s p ++ c / 4 ^ s ∷ [] → has (c / 4 ^ s) (boxes_of s p) ≡ 0
    new_quarter e0 = not_in _ _ (λ h. omega (arith, before_last (boxes_of s p) _ _ (rw e0 at (rising_next s)) h))

    -- a cell in the same quarter changes nothing
    pub amid_same : c / 4 ^ s ≡ child → Amid gs s (p ++ c ∷ []) g child bits bytes
    amid_same e =
        let q : m.last / 4 ^ s ≡ c / 4 ^ s = sym m.here ∙ sym e in
        let e0 : boxes_of s (p ++ c ∷ []) ≡ boxes_of s p = rw m.seen (boxes_same s m.front m.last c q) in
        let e1 : boxes_of (suc s) (p ++ c ∷ []) ≡ boxes_of (suc s) p = rw m.seen (boxes_same (suc s) m.front m.last c (sym (div_up s m.last) ∙ ap (λ (x : ℕ). x / 4) q ∙ div_up s c)) in
        record { front = p; last = c; closed = m.closed; seen = refl; here = sym e; boxes = e1 ∙ m.boxes; held = rw e0 m.held; put = rw e0 m.put; few = omega (arith, longer, m.few) }

    -- another quarter of the same box adds its bit
    pub amid_quarter : (c / 4 ^ s ≡ child → ⊥) → c / 4 ^ s / 4 ≡ child / 4 → Amid gs s (p ++ c ∷ []) g (c / 4 ^ s) (bits + worth (c / 4 ^ s)) bytes
    amid_quarter n e =
        let e0 : boxes_of s (p ++ c ∷ []) ≡ boxes_of s p ++ c / 4 ^ s ∷ [] = fresh n in
        let e1 : boxes_of (suc s) (p ++ c ∷ []) ≡ boxes_of (suc s) p =
        rw m.seen (boxes_same (suc s) m.front m.last c (sym (div_up s m.last) ∙ ap (λ (x : ℕ). x / 4) (sym m.here) ∙ sym e ∙ div_up s c)) in
        let others : map (group_of (boxes_of s p ++ c / 4 ^ s ∷ [])) m.closed ≡ map (group_of (boxes_of s p)) m.closed =
        map_agree _ _ m.closed (λ z h. group_of_other (boxes_of s p) z (c / 4 ^ s) (λ q. omega (arith, before_last m.closed (child / 4) z (rw (e1, m.boxes) at (rising_next (suc s))) h))) in
        let more = group_of_more (boxes_of s p) (c / 4 ^ s / 4) (c / 4 ^ s) refl (new_quarter e0) in
        record {
          front = p;
          last = c;
          closed = m.closed;
          seen = refl;
          here = refl;
          boxes = e1 ∙ m.boxes ∙ ap (λ (x : ℕ). m.closed ++ x ∷ []) (sym e);
          held = rw (e0, more, e) (omega (arith, m.held));
          put = rw (e0, others) m.put;
          few = omega (arith, longer, m.few);
        }

    -- another box: the group is put, and the next one begins
    pub amid_box : (c / 4 ^ s / 4 ≡ child / 4 → ⊥) → Amid gs s (p ++ c ∷ []) (g + 1) (c / 4 ^ s) (worth (c / 4 ^ s)) (put_group bytes g bits)
    amid_box n =
        let e0 : boxes_of s (p ++ c ∷ []) ≡ boxes_of s p ++ c / 4 ^ s ∷ [] = fresh (λ q. n (ap (λ (x : ℕ). x / 4) q)) in
        let e1 : boxes_of (suc s) (p ++ c ∷ []) ≡ boxes_of (suc s) p ++ c / 4 ^ s / 4 ∷ [] =
        rw (m.seen, div_up) (boxes_new (suc s) m.front m.last c (λ q. n (div_up s c ∙ sym q ∙ sym (div_up s m.last) ∙ ap (λ (x : ℕ). x / 4) (sym m.here)))) in
        let less : (z : ℕ) → In z (boxes_of (suc s) p) → z < c / 4 ^ s / 4 = λ z h. before_last (boxes_of (suc s) p) _ z (rw e1 at (rising_next (suc s))) h in
        let others : map (group_of (boxes_of s p ++ c / 4 ^ s ∷ [])) (boxes_of (suc s) p) ≡ map (group_of (boxes_of s p)) (boxes_of (suc s) p) =
        map_agree _ _ (boxes_of (suc s) p) (λ z h. group_of_other (boxes_of s p) z (c / 4 ^ s) (λ q. omega (arith, less z h))) in
        let none : group_of (boxes_of s p) (c / 4 ^ s / 4) ≡ 0 =
        group_of_none (boxes_of s p) (c / 4 ^ s / 4) (λ y h q. let d = in_boxes_of s y p h in omega (arith, less _ (boxes_of_in (suc s) d.0 p d.1), div_up s d.0, d.2)) in
        let more = group_of_more (boxes_of s p) (c / 4 ^ s / 4) (c / 4 ^ s) refl (new_quarter e0) in
        record {
          front = p;
          last = c;
          closed = boxes_of (suc s) p;
          seen = refl;
          here = refl;
          boxes = e1;
          held = rw (e0, more, none) (omega arith);
          put = rw (e0, others) amid_put;
          few = omega (arith, longer, m.few, length-append m.closed (child / 4 ∷ []), ap length m.boxes);
        }

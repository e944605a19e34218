-- The ends of a build: what is known there makes the promise.
use Prim.Native.Nat.{ℕ, ◌+◌, ◌/◌, ◌^◌, ◌≤◌, ◌<◌}
use mathlib.Core.Bool.{Bool, true, false, ◌&&◌}
use mathlib.Core.Path.{◌≡◌, refl, sym, ap, ◌∙◌}
use mathlib.Core.List.{List, [], ◌∷◌, ◌++◌, map, append_assoc}
use native.Mathlib.Omega.{arith}
use lib.ListN.{length, take, drop, replicate, length-map}
use lib.Seq.{take_at}
use lib.Dec.{leb, eqb}
use borrow.Author.Tests.{le-leb, lt-leb, leb-true, eqb-true}
use Rattle.refusal.proofs.Tests.{both}
use Rattle.refusal.specs.declared.Refusal.{Refusal}
use Rattle.refusal.specs.Numbers.{number_of}
use Rattle.refusal.specs.Answer.{Answer, Served, Refused, ◌unless◌, left_in}
use Rattle.refusal.proofs.Answers.{passed}
use Rattle.order.proofs.Sets.{In, Rising, has_here, in_tail, set_rising, has-set}
use Rattle.order.specs.Once.{Left}
use Rattle.board.specs.Limits.{max_height, max_joints}
use Rattle.board.specs.Levels.{Box, groups}
use Rattle.board.specs.Code.{code_of}
use Rattle.board.proofs.Codes.{in_below, decode, code_decode, code_below}
use Rattle.build.specs.declared.Built.{Built}
use Rattle.std.specs.Prelude.{Result, Ok, Err}
use Rattle.build.specs.Build.{groups_from, once_each, set_of, bitmap_of_codes, bitmap_of}
use Rattle.build.specs.Writing.{fit, Written}
use Rattle.build.specs.Answers.{cells_of, all_on, given_of, codes_built_of, built_of}
use Rattle.build.specs.Promise.{Kept}
use Rattle.build.proofs.Pack.{length-pack}
use Rattle.build.proofs.Fit.{fit_all}
use Rattle.build.proofs.Coding.{length_cells}
use Rattle.build.proofs.Bitmaps.{groups_of_bitmap}

-- numbers below 4 ^ h are the codes of their cells
pub codes_of_cells : (h : ℕ) (codes : List ℕ) → ((z : ℕ) → In z codes → z < 4 ^ h) → map (code_of h) (map (decode h) codes) ≡ codes
codes_of_cells h [] small = refl
codes_of_cells h (x ∷ codes) small =
    let first : code_of h (decode h x) ≡ x = code_decode h x (small x (has_here x codes)) in
    let rest : map (code_of h) (map (decode h) codes) ≡ codes = codes_of_cells h codes (λ z i. small z (in_tail z x codes i)) in
    cc

module _ (h : ℕ) (codes : List ℕ) where
  -- the groups that are written are the bitmap's
  pub boxes_are : 1 ≤ h → ((z : ℕ) → In z codes → z < 4 ^ h) → groups h (bitmap_of_codes h codes) ≡ length (groups_from h (0 ∷ []) (once_each codes))
  unfolding bitmap_of set_of
  boxes_are low small = rw (codes_of_cells h codes small) at (groups_of_bitmap h (map (decode h) codes) low)

  -- two to a byte
  pub bytes_are : length (bitmap_of_codes h codes) ≡ (length (groups_from h (0 ∷ []) (once_each codes)) + 1) / 2
  unfolding bitmap_of_codes
  bytes_are = length-pack _

  -- too many joints
  pub codes_many : (room : ℕ) → max_joints < length (once_each codes) → codes_built_of h codes room ≡ Refused 5
  unfolding codes_built_of
  codes_many room many = rw (lt-leb (length (once_each codes)) max_joints many)

  -- too little room
  pub codes_room : (room : ℕ) → length (once_each codes) ≤ max_joints → room < length (bitmap_of_codes h codes) → codes_built_of h codes room ≡ Refused 18
  unfolding codes_built_of
  codes_room room few short = rw (le-leb (length (once_each codes)) max_joints few, lt-leb (length (bitmap_of_codes h codes)) room short)

  -- neither
  pub codes_served : (room : ℕ) → length (once_each codes) ≤ max_joints → length (bitmap_of_codes h codes) ≤ room
      → codes_built_of h codes room ≡ Served (length (once_each codes) ∷ groups h (bitmap_of_codes h codes) ∷ length (bitmap_of_codes h codes) ∷ [])
  unfolding codes_built_of
  codes_served room few fits = rw (le-leb (length (once_each codes)) max_joints few, le-leb (length (bitmap_of_codes h codes)) room fits)

-- a refusal leaves zeros
pub kept_refused : (answer : Answer (List ℕ)) (bytes : List ℕ) (work room : ℕ) (refusal : Refusal) (work' bitmap' : List ℕ)
    → answer ≡ Refused (number_of refusal) → work' ≡ replicate work 0 → bitmap' ≡ replicate room 0 → Kept answer bytes work room (Err refusal) work' bitmap'
unfolding left_in
kept_refused answer bytes work room refusal work' bitmap' e w b = record { answered = sym e; work_left = w; bitmap_left = rw e b }

-- a served answer leaves the bytes, and zeros behind them
pub kept_served : (answer : Answer (List ℕ)) (bytes : List ℕ) (work room j g l : ℕ) (work' bitmap' : List ℕ)
    → answer ≡ Served (j ∷ g ∷ l ∷ []) → length bytes ≤ room → work' ≡ replicate work 0 → bitmap' ≡ fit room bytes → Kept answer bytes work room (Ok (record { joints = j; boxes = g; length = l })) work' bitmap'
unfolding left_in
kept_served answer bytes work room j g l work' bitmap' e fits w b = record { answered = sym e; work_left = w; bitmap_left = rw e (b ∙ fit_all room bytes fits) }

-- the work list m holds the r distinct codes of the first n of a work list, and all of them are below 4 ^ h
pub record Tidy (h : ℕ) (work : List ℕ) (n : ℕ) (m : List ℕ) (r : ℕ) : Type 0 where
  pub low : 1 ≤ h
  pub small : (z : ℕ) → In z (take n work) → z < 4 ^ h
  pub left : Left (once_each (take n work)) (drop n work) m n r

module _ {h : ℕ} {work : List ℕ} {n : ℕ} {m : List ℕ} {r : ℕ} (t : Tidy h work n m r) where
  -- they stand in its first places
  pub tidy_first : take r m ≡ once_each (take n work)
  tidy_first = rw (t.left.has, append_assoc) (take_at (once_each (take n work)) _ r (sym t.left.many))

  -- so many
  pub tidy_long : length (take r m) ≡ r
  tidy_long = ap length tidy_first ∙ sym t.left.many

  -- rising
  pub tidy_rising : Rising (take r m)
  tidy_rising = rw tidy_first (set_rising (take n work))

  -- and on the board
  pub tidy_small : (z : ℕ) → In z (take r m) → z < 4 ^ h
  tidy_small z i = t.small z (sym (has-set z (take n work)) ∙ rw tidy_first at i)

  -- more than the limit
  pub end_many : (room : ℕ) (refusal : Refusal) (work' bitmap' : List ℕ) → number_of refusal ≡ 5 → max_joints < r
      → work' ≡ replicate (length work) 0 → bitmap' ≡ replicate room 0 → Kept (codes_built_of h (take n work) room) (bitmap_of_codes h (take n work)) (length work) room (Err refusal) work' bitmap'
  end_many room refusal work' bitmap' e many w b =
      kept_refused _ _ _ room refusal work' bitmap' (rw e (codes_many h (take n work) room (omega (arith, t.left.many)))) w b

  module _ (g : ℕ) (bytes : List ℕ) (few : r ≤ max_joints) (w : Written (groups_from h (0 ∷ []) (take r m)) g bytes) where
    -- so many bytes are due
    due : length (bitmap_of_codes h (take n work)) ≡ (g + 1) / 2
    due = bytes_are h (take n work) ∙ ap (λ (k : ℕ). (k + 1) / 2) (sym (w.next ∙ ap (λ (ds : List ℕ). length (groups_from h (0 ∷ []) ds)) tidy_first))

    -- more than there is room for
    pub end_room : (room : ℕ) (refusal : Refusal) (work' bitmap' : List ℕ) → number_of refusal ≡ 18 → room < (g + 1) / 2
        → work' ≡ replicate (length work) 0 → bitmap' ≡ replicate room 0 → Kept (codes_built_of h (take n work) room) (bitmap_of_codes h (take n work)) (length work) room (Err refusal) work' bitmap'
    end_room room refusal work' bitmap' e short z b =
        kept_refused _ _ _ room refusal work' bitmap' (rw e (codes_room h (take n work) room (omega (arith, t.left.many)) (omega (arith, due)))) z b

    -- no more
    pub end_served : (room : ℕ) (work' : List ℕ) → length bytes ≡ room → (g + 1) / 2 ≤ room → work' ≡ replicate (length work) 0
        → Kept (codes_built_of h (take n work) room) (bitmap_of_codes h (take n work)) (length work) room (Ok (record { joints = r; boxes = g; length = (g + 1) / 2 })) work' bytes
    end_served room work' long fits z =
        let count : groups h (bitmap_of_codes h (take n work)) ≡ g =
        boxes_are h (take n work) t.low t.small ∙ sym (w.next ∙ ap (λ (ds : List ℕ). length (groups_from h (0 ∷ []) ds)) tidy_first) in
        kept_served _ _ _ room r g _ work' bytes
        (codes_served h (take n work) room (omega (arith, t.left.many)) (omega (arith, due)) ∙ answer (sym t.left.many) count due)
        (omega (arith, due)) z (w.has ∙ rw (long, tidy_first) (unfold bitmap_of_codes in refl))
      where
        answer : {a b c j k l : ℕ} → a ≡ j → b ≡ k → c ≡ l → ◌≡◌ {A = Answer (List ℕ)} (Served (a ∷ b ∷ c ∷ [])) (Served (j ∷ k ∷ l ∷ []))
        answer p q s = cc

-- the last test was passed
last_passed : (n : ℕ) (t : Bool) {x : Bool} → (n unless t) ≡ Served x → t ≡ true
last_passed n true e = refl
last_passed n false {x} e = (passed n false (Served x) {x = x} e).0

-- what is given can be built from
pub record Good (h : ℕ) (rows columns : List ℕ) (work : ℕ) : Type 0 where
  pub low : 1 ≤ h
  pub high : h ≤ max_height
  pub even : length rows ≡ length columns
  pub room : length rows ≤ work

-- that is what it means that nothing refuses it
pub given_good : (h : ℕ) (rows columns : List ℕ) (work : ℕ) → given_of h rows columns work ≡ Served true → Good h rows columns work
unfolding given_of
given_good h rows columns work e =
    let p = passed 1 (leb 1 h && leb h max_height) _ e in
    let tall = both (leb 1 h) (leb h max_height) p.0 in
    let q = passed 20 (eqb (length rows) (length columns)) _ p.1 in
    let r = passed 12 (all_on h (cells_of rows columns)) (10 unless leb (length rows) work) q.1 in
    record {
      low = leb-true 1 h tall.0;
      high = leb-true h max_height tall.1;
      even = eqb-true (length rows) (length columns) q.0;
      room = leb-true (length rows) work (last_passed 10 (leb (length rows) work) {x = true} r.1);
    }

-- the codes of cells are below 4 ^ h
pub codes_small : (h : ℕ) (cells : List Box) (z : ℕ) → In z (map (code_of h) cells) → z < 4 ^ h
codes_small h cells = in_below (4 ^ h) (code_of h) cells (λ b. code_below h b.row b.col)

-- refused for what is given
pub given_refused : (h : ℕ) (rows columns : List ℕ) (work room k : ℕ) → given_of h rows columns work ≡ Refused k → built_of h rows columns work room ≡ Refused k
unfolding built_of
given_refused h rows columns work room k e = rw e

-- what is given is good: it goes by the codes
pub given_on : (h : ℕ) (rows columns : List ℕ) (work room : ℕ) → given_of h rows columns work ≡ Served true → codes_built_of h (map (code_of h) (cells_of rows columns)) room ≡ built_of h rows columns work room
unfolding built_of
given_on h rows columns work room e = rw e

-- the work list once it is filled
module _ (h : ℕ) (rows columns work m : List ℕ) (e : given_of h rows columns (length work) ≡ Served true) (f : m ≡ map (code_of h) (cells_of rows columns) ++ drop (length rows) work) where
  -- the cells' codes stand in its first places
  pub filled_first : take (length rows) m ≡ map (code_of h) (cells_of rows columns)
  filled_first =
      rw f
      (take_at (map (code_of h) (cells_of rows columns)) (drop (length rows) work) (length rows)
      (length-map (cells_of rows columns) (code_of h) ∙ length_cells rows columns (given_good h rows columns (length work) e).even))

  -- on the board
  pub filled_small : (z : ℕ) → In z (take (length rows) m) → z < 4 ^ h
  filled_small z i = codes_small h (cells_of rows columns) z (rw filled_first at i)

  -- what is built from them is built from the cells
  pub filled_kept : (room : ℕ) (r : Result Built Refusal) (work' bitmap' : List ℕ) → length m ≡ length work
      → Kept (codes_built_of h (take (length rows) m) room) (bitmap_of_codes h (take (length rows) m)) (length m) room r work' bitmap'
      → Kept (built_of h rows columns (length work) room) (bitmap_of h (cells_of rows columns)) (length work) room r work' bitmap'
  unfolding bitmap_of
  filled_kept room r work' bitmap' long k = rw (← given_on h rows columns (length work) room e) (rw (filled_first, long) at k)

-- Spans: closed ends as half-open ones, and a box beside a span, which has nothing in it.
use Prim.Native.Nat.{ℕ, ◌+◌, ◌*◌, ◌^◌, ◌≤◌, ◌<◌}
use mathlib.Core.Bool.{Bool, true, false, ◌&&◌}
use mathlib.Core.Path.{◌≡◌, refl}
use mathlib.Core.List.{List, []}
use native.Mathlib.Omega.{arith}
use native.Mathlib.Nat.{mul-one}
use lib.Dec.{leb, ltb}
use borrow.Author.Tests.{leb-true, ltb-true, lt-ltb}
use Rattle.refusal.proofs.Tests.{both}
use Rattle.order.specs.Order.{keep}
use Rattle.order.proofs.Cases.{leb_cases, ltb_cases, test_cases}
use Rattle.order.proofs.Total.{All, all_nil, all_cons, all_map}
use Rattle.window.specs.declared.Span.{Span}
use Rattle.window.specs.declared.Pane.{Pane}
use Rattle.board.specs.Levels.{Box}
use Rattle.board.specs.Under.{under}
use Rattle.window.specs.Window.{Window, inside}
use Rattle.window.specs.Span.{in_span, within, meets_span, raised}
use Rattle.board.proofs.Under.{under_within, within_span}

-- at most an end is before the end raised by one
up_to : (x end : ℕ) → leb x end ≡ ltb x (end + 1)
up_to x end = leb_cases x end (λ h e. rw (e, lt-ltb x (end + 1) (omega arith))) (λ h e. rw e (ltb_cases x (end + 1) (λ k f. absurd (omega arith)) (λ k f. rw f)))

-- the closed test is the half-open one with the ends raised
pub inside_raised : (w : Window) (c : Box) → inside w c ≡ within (raised w) c
unfolding inside within
inside_raised w c = rw (up_to c.row w.bottom, up_to c.col w.right)

-- a cell is in a span when, as a box of side 1, it meets it
pub meets_cell : (s : Span) (x : ℕ) → meets_span s 0 x ≡ in_span s x
unfolding meets_span
meets_cell s x = rw (mul-one x, ← up_to s.from x)

-- a box that has a cell in a span meets it
in_meets : (s : Span) (k x z : ℕ) → x * 2 ^ k ≤ z → z < x * 2 ^ k + 2 ^ k → in_span s z ≡ true → meets_span s k x ≡ true
unfolding meets_span
in_meets s k x z low high e =
    let b = both (leb s.from z) (ltb z s.past) e in
    rw (lt-ltb s.from (x * 2 ^ k + 2 ^ k) (omega (arith, leb-true s.from z b.0)), lt-ltb (x * 2 ^ k) s.past (omega (arith, ltb-true z s.past b.1)))

-- so a cell of a box that does not meet it is not in it
pub not_in_span : (s : Span) (k x z : ℕ) → x * 2 ^ k ≤ z → z < x * 2 ^ k + 2 ^ k → meets_span s k x ≡ false → in_span s z ≡ false
not_in_span s k x z low high e = test_cases (in_span s z) (λ f. absurd (let m = in_meets s k x z low high f in let z : ◌≡◌ {A = ℕ} 0 1 = cc in omega arith)) (λ f. f)

-- a test that none passes keeps nothing
keep_nothing : {A : Type 0} (p : A → Bool) {l : List A} → All (λ (a : A). p a ≡ false) l → keep p l ≡ []
unfolding keep
keep_nothing p all_nil = refl
keep_nothing p (all_cons h t) = rw (h, keep_nothing p t)

-- a test with one part that fails fails
last_false : (x y : Bool) → y ≡ false → x && y ≡ false
last_false true y e = e
last_false false y e = refl

module _ (p : Pane) (bytes : List ℕ) (k g : ℕ) (b : Box) where
  -- a box above or below the pane has nothing in it
  pub nothing_by_rows : meets_span p.rows k b.row ≡ false → keep (within p) (under bytes k g b) ≡ []
  unfolding within
  nothing_by_rows e = keep_nothing (within p) (all_map (λ c i. let span = within_span k b c i in rw (not_in_span p.rows k b.row c.row span.0 span.1 e)) (under_within bytes k g b))

  -- nor has a box to the left or to the right of it
  pub nothing_by_columns : meets_span p.columns k b.col ≡ false → keep (within p) (under bytes k g b) ≡ []
  unfolding within
  nothing_by_columns e = keep_nothing (within p) (all_map (λ c i. let span = within_span k b c i in last_false (in_span p.rows c.row) _ (not_in_span p.columns k b.col c.col span.2 span.3 e)) (under_within bytes k g b))

-- Tests of the definitions, in the table's words.
use Prim.Native.Nat.{ℕ, ◌^◌}
use mathlib.Core.Bool.{Bool, true, false, ◌&&◌}
use mathlib.Core.Logic.{◌↔◌}
use mathlib.Core.Path.{◌≡◌, refl, sym}
use native.Mathlib.Omega.{arith}
use lib.Dec.{leb, ltb}
use borrow.Author.Tests.{leb-true, ltb-true, le-leb, lt-ltb}
use Rattle.refusal.proofs.Tests.{both}
use Rattle.board.specs.Limits.{max_height}
use Rattle.board.specs.Member.{on_board}
use Rattle.board.specs.Table.{HeightServed, CellOn}

-- no test is both passed and not
pub no_path : true ≡ false → ⊥
no_path e = let z : ◌≡◌ {A = ℕ} 0 1 = cc in omega arith

-- a test that says P is not passed exactly where P is not so
pub not_passed : (t : Bool) {P : Type 0} → (t ≡ true) ↔ P → (t ≡ false) ↔ (P → ⊥)
not_passed true e = ((λ f. absurd (no_path f)), λ n. absurd (n (e.0 refl)))
not_passed false e = ((λ f p. no_path (sym (e.1 p))), λ n. refl)

-- a height that is served
pub height_test : (h : ℕ) → (leb 1 h && leb h max_height ≡ true) ↔ HeightServed h
height_test h =
    ((λ e. let t = both (leb 1 h) (leb h max_height) e in (leb-true 1 h t.0, leb-true h max_height t.1)), λ s. rw (le-leb 1 h s.0, le-leb h max_height s.1))

-- a cell on the board
pub cell_test : (h r c : ℕ) → (on_board h r c ≡ true) ↔ CellOn h r c
unfolding on_board
cell_test h r c =
    ((λ e. let t = both (ltb r (2 ^ h)) (ltb c (2 ^ h)) e in (ltb-true r (2 ^ h) t.0, ltb-true c (2 ^ h) t.1)), λ o. rw (lt-ltb r (2 ^ h) o.0, lt-ltb c (2 ^ h) o.1))

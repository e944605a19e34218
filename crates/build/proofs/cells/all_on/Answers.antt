-- The chain tests the row and the column of each place, and the test of all is told by those.
use Prim.Native.Nat.{ℕ}
use mathlib.Core.Bool.{true, false}
use mathlib.Core.Path.{◌≡◌}
use Rattle.std.proofs.Common.{rules}
use Rattle.std.proofs.lemmas.Iterator.{YieldsList-from_slice, YieldsList-from_zip, cases_from_all}
use Rattle.board.specs.Member.{on_board}
use Rattle.build.proofs.Coding.{tested}
use Rattle.build.proofs.cells.all_on.Goals as goal

pub returns : goal.returns
returns c =
    let a = c.args in
    tested a.height a.rows.now a.columns.now c.all.result
    (cases_from_all c.all.new.self _ _ (λ (p : ℕ × ℕ). on_board a.height p.0 p.1 ≡ true) (λ (p : ℕ × ℕ). on_board a.height p.0 p.1 ≡ false) c.all.ensures.ran
    (YieldsList-from_zip (YieldsList-from_slice a.rows.now cc) (YieldsList-from_slice a.columns.now cc)) (λ x q k. search rules) (λ x q k. search rules))

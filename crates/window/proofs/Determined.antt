-- The promise determines its call.
use Prim.Native.Nat.{ℕ}
use mathlib.Core.Path.{◌≡◌, sym, ap, ◌∙◌}
use Rattle.promise.specs.Determines.{Determines}
use Rattle.std.specs.Prelude.{Result, Ok, Err}
use Rattle.refusal.specs.declared.Refusal.{Refusal}
use Rattle.refusal.proofs.Numbers.{same_refusal}
use Rattle.refusal.proofs.Answers.{not_both}
use Rattle.window.specs.Window.{window_numbers}
use Rattle.window.specs.contracts.window as window-fn
use Rattle.window.proofs.window.Reads as window

-- answers with the same numbers are equal
pub windows_alike : (r s : Result ℕ Refusal) → window_numbers r ≡ window_numbers s → r ≡ s
windows_alike (Ok n) (Ok m) e = cc
windows_alike (Ok n) (Err b) e = absurd (not_both (sym e))
windows_alike (Err a) (Ok n) e = absurd (not_both e)
windows_alike (Err a) (Err b) e = ap Err (same_refusal a b e)

pub window_determined : Determines window-fn.ended window.Asked window.Learnt
window_determined κs a asked x y left other p q =
    let rows = p.rows_left ∙ sym q.rows_left in
    let columns = p.columns_left ∙ sym q.columns_left in
    (windows_alike x y (p.returned ∙ sym q.returned), λ i. (tt, (tt, (tt, (tt, (tt, (rows i, (columns i, tt))))))))

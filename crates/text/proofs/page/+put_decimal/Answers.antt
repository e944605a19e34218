use Prim.Native.Nat.{ℕ, ◌+◌, ◌/◌, ◌≤◌}
use mathlib.Core.Path.{◌≡◌, ap, ◌∙◌}
use native.Mathlib.Omega.{arith}
use lib.ListN.{length, length-append}
use Rattle.text.specs.Text.{in_decimal}
use Rattle.text.proofs.Digits.{decimal_digit, decimal_more}
use Rattle.text.proofs.Putting.{put_one, put_then, put-length}
use Rattle.text.proofs.page.+put_decimal.Goals as goal

-- a number has a digit more than its tenth
one_more : (n : ℕ) → 10 ≤ n → length (in_decimal n) ≡ length (in_decimal (n / 10)) + 1
one_more n h = ap length (decimal_more n h) ∙ simp length-append

pub bounds-out-at : goal.bounds-out-at
bounds-out-at t c = omega (arith, ap length (decimal_digit c.args.n (omega arith)))

pub returns-then-n-lt10 : goal.returns-then-n-lt10
returns-then-n-lt10 t c =
    let g = c.args in
    rw (decimal_digit g.n (omega arith)) (put_one _ g.at g.out.now (omega (arith, ap length (decimal_digit g.n (omega arith)))))

pub put_decimal-last-requires : goal.put_decimal-last-requires
put_decimal-last-requires t c =
    let n = c.args.n in
    (omega arith, omega (arith, one_more n (omega arith)))

pub bounds-out-last : goal.bounds-out-last
bounds-out-last t c =
    let e = c.put_decimal-last.ensures in
    omega (arith, e.place, put-length e, one_more c.args.n (omega arith))

pub overflow_add-result-2 : goal.overflow_add-result-2
overflow_add-result-2 t c =
    let e = c.put_decimal-last.ensures in
    omega (arith, e.place, put-length e, one_more c.args.n (omega arith))

pub returns : goal.returns
returns t c =
    let n = c.args.n in
    let e = c.put_decimal-last.ensures in
    rw (decimal_more n (omega arith)) (put_then e (put_one _ _ _ (omega (arith, e.place, put-length e, one_more n (omega arith)))))

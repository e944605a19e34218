-- Each promise determines its call.
use mathlib.Core.Path.{◌≡◌, refl, sym, ap, ◌∙◌}
use Rattle.promise.specs.Determines.{Determines}
use Rattle.std.specs.Prelude.{Result, Ok, Err}
use Rattle.refusal.specs.declared.Refusal.{Refusal}
use Rattle.refusal.proofs.Numbers.{same_refusal}
use Rattle.refusal.proofs.Answers.{not_both}
use Rattle.build.specs.declared.Built.{Built}
use Rattle.build.specs.Promise.{built_numbers}
use Rattle.build.specs.contracts.build as build-fn
use Rattle.build.proofs.build.Reads as build
use Rattle.build.specs.contracts.build_codes as build-codes-fn
use Rattle.build.proofs.build_codes.Reads as build-codes
use Rattle.build.specs.contracts.cells.code as code-fn
use Rattle.build.proofs.cells.code.Reads as code

-- answers with the same numbers are equal
pub builds_alike : (r s : Result Built Refusal) → built_numbers r ≡ built_numbers s → r ≡ s
builds_alike (Ok r) (Ok s) e =
    let j : r.joints ≡ s.joints = cc in
    let g : r.boxes ≡ s.boxes = cc in
    let l : r.length ≡ s.length = cc in
    ap Ok (λ i. record { joints = j i; boxes = g i; length = l i })
builds_alike (Ok r) (Err b) e = absurd (not_both (sym e))
builds_alike (Err a) (Ok s) e = absurd (not_both e)
builds_alike (Err a) (Err b) e = ap Err (same_refusal a b e)

pub build_determined : Determines build-fn.ended build.Asked build.Learnt
build_determined κs a asked x y left other p q =
    let work = p.work_left ∙ sym q.work_left in
    let bitmap = p.bitmap_left ∙ sym q.bitmap_left in
    (builds_alike x y (p.answered ∙ sym q.answered), λ i. (tt, (tt, (tt, (work i, (bitmap i, tt))))))

-- ---- and what other crates call

pub build_codes_determined : Determines build-codes-fn.ended build-codes.Asked build-codes.Learnt
build_codes_determined κs a asked x y left other p q =
    let work = p.work_left ∙ sym q.work_left in
    let bitmap = p.bitmap_left ∙ sym q.bitmap_left in
    (builds_alike x y (p.answered ∙ sym q.answered), λ i. (tt, (tt, (work i, (bitmap i, tt)))))

pub code_determined : Determines code-fn.ended code.Asked code.Learnt
code_determined κs a asked x y left other p q = (p ∙ sym q, refl)

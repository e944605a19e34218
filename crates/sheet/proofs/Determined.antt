-- Each promise determines its call.
use mathlib.Core.Path.{◌≡◌, sym, ◌∙◌}
use Rattle.std.specs.Prelude.{Result, Ok, Err}
use Rattle.promise.specs.Determines.{Determines}
use Rattle.refusal.proofs.Numbers.{one_to_twenty}
use Rattle.sheet.specs.declared.Sheeted.{Sheeted}
use Rattle.sheet.specs.declared.RefusedAt.{RefusedAt as Turned}
use Rattle.sheet.specs.Promise.{sheeted_of}
use Rattle.sheet.proofs.Shape.{not_accepted}
use Rattle.sheet.specs.contracts.read as read-fn
use Rattle.sheet.proofs.read.Reads as read

-- two answers to a sheet with the same numbers are equal
sheeted_alike : (r s : Result Sheeted Turned) → sheeted_of r ≡ sheeted_of s → r ≡ s
sheeted_alike (Ok b) (Ok c) e =
    let h : b.height ≡ c.height = cc in
    let j : b.joints ≡ c.joints = cc in
    let g : b.boxes ≡ c.boxes = cc in
    let l : b.length ≡ c.length = cc in
    let o : b.requests ≡ c.requests = cc in
    λ i. Ok (record { height = h i; joints = j i; boxes = g i; length = l i; requests = o i })
sheeted_alike (Ok b) (Err s) e = not_accepted (sym e)
sheeted_alike (Err r) (Ok b) e = not_accepted e
sheeted_alike (Err r) (Err s) e =
    let same : r.refusal ≡ s.refusal = one_to_twenty.distinct r.refusal s.refusal (let n : _ ≡ _ = cc in n) in
    let place : r.offset ≡ s.offset = cc in
    λ i. Err (record { refusal = same i; offset = place i })

pub read_determined : Determines read-fn.ended read.Asked read.Learnt
read_determined κs a asked x y left other p q = (
  sheeted_alike x y (p.answered ∙ sym q.answered),
  λ i. (tt, ((p.work_left ∙ sym q.work_left) i, ((p.bitmap_left ∙ sym q.bitmap_left) i, tt))),
)

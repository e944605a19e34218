-- The promise determines the call.
use mathlib.Core.Path.{◌≡◌, refl, sym, ap, ◌∙◌}
use Rattle.promise.specs.Determines.{Determines}
use Rattle.refusal.proofs.Answers.{not_both}
use Rattle.std.specs.Prelude.{Option, None, Some}
use Rattle.seek.specs.declared.answered.Found.{Found}
use Rattle.seek.specs.Told.{sought_of}
use Rattle.seek.specs.contracts.answered.answered as answered-fn
use Rattle.seek.proofs.answered.answered.Reads as answered

-- answers with the same numbers are equal
sought_alike : (r s : Option Found) → sought_of r ≡ sought_of s → r ≡ s
sought_alike (Some f) (Some g) e =
    let joints : f.joints ≡ g.joints = cc in
    let boxes : f.boxes ≡ g.boxes = cc in
    ap Some (λ i. record { joints = joints i; boxes = boxes i })
sought_alike (Some f) None e = absurd (not_both (sym e))
sought_alike None (Some g) e = absurd (not_both e)
sought_alike None None e = refl

pub answered_determined : Determines answered-fn.ended answered.Asked answered.Learnt
answered_determined κs a given x y left other p q =
    let keys = p.keys_left ∙ sym q.keys_left in
    let corners = p.corners_left ∙ sym q.corners_left in
    let trail = p.trail_left ∙ sym q.trail_left in
    (sought_alike x y (p.number ∙ sym q.number), λ i. (tt, (tt, (tt, (keys i, (corners i, (trail i, tt)))))))

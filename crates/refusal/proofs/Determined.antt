-- The promise determines the call.
use mathlib.Core.Path.{sym, ◌∙◌, refl}
use Rattle.promise.specs.Determines.{Determines}
use Rattle.refusal.specs.contracts.Refusal.number as number-fn
use Rattle.refusal.proofs.Refusal.number.Reads as number

pub number_determined : Determines number-fn.ended number.Asked number.Learnt
number_determined κs a asked x y left other p q = (p ∙ sym q, refl)

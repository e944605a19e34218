-- Each promise determines its call.
use mathlib.Core.Path.{sym, ◌∙◌, refl}
use Rattle.promise.specs.Determines.{Determines}
use Rattle.order.proofs.Smallest.{least_unique}
use Rattle.order.proofs.Distinct.{left_one}
use Rattle.order.specs.contracts.least as least-fn
use Rattle.order.proofs.least.Reads as least
use Rattle.order.specs.contracts.sort as sort-fn
use Rattle.order.proofs.sort.Reads as sort
use Rattle.order.specs.contracts.once.drop as drop-fn
use Rattle.order.proofs.once.drop.Reads as drop
use Rattle.order.specs.contracts.once.tidy as tidy-fn
use Rattle.order.proofs.once.tidy.Reads as tidy

pub least_determined : Determines least-fn.ended least.Asked least.Learnt
least_determined κs a asked x y left other p q = (least_unique p q, refl)

pub sort_determined : Determines sort-fn.ended sort.Asked sort.Learnt
sort_determined κs a asked x y left other p q = (refl, λ i. ((p ∙ sym q) i, tt))

pub drop_determined : Determines drop-fn.ended drop.Asked drop.Learnt
drop_determined κs a asked x y left other p q = let same = left_one p q in (same.0, λ i. (same.1 i, (tt, tt)))

pub tidy_determined : Determines tidy-fn.ended tidy.Asked tidy.Learnt
tidy_determined κs a asked x y left other p q = let same = left_one p q in (same.0, λ i. (same.1 i, (tt, tt)))

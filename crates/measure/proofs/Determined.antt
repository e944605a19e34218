-- Each promise determines its call.
use mathlib.Core.Bool.{true}
use mathlib.Core.Path.{sym, ◌∙◌, refl}
use Rattle.promise.specs.Determines.{Determines}
use Rattle.measure.proofs.Alike.{answers_alike, said_alike}
use Rattle.measure.specs.contracts.read as read-fn
use Rattle.measure.proofs.read.Reads as read
use Rattle.measure.specs.contracts.read_marked as read-marked-fn
use Rattle.measure.proofs.read_marked.Reads as read-marked
use Rattle.measure.specs.contracts.write as write-fn
use Rattle.measure.proofs.write.Reads as write
use Rattle.measure.specs.contracts.write_marked as write-marked-fn
use Rattle.measure.proofs.write_marked.Reads as write-marked
use Rattle.measure.specs.contracts.size_of as size-of-fn
use Rattle.measure.proofs.size_of.Reads as type_size

pub read_determined : Determines read-fn.ended read.Asked read.Learnt
read_determined κs a asked x y left other p q = (answers_alike x y (p ∙ sym q), refl)

pub read_marked_determined : Determines read-marked-fn.ended read-marked.Asked read-marked.Learnt
read_marked_determined κs a asked x y left other p q = (answers_alike x y (p ∙ sym q), refl)

pub write_determined : Determines write-fn.ended write.Asked write.Learnt
write_determined κs a asked x y left other p q = (said_alike (λ _. true) (λ _ _ _. refl) x y (p.0 ∙ sym q.0), λ i. (tt, ((p.1 ∙ sym q.1) i, tt)))

pub write_marked_determined : Determines write-marked-fn.ended write-marked.Asked write-marked.Learnt
write_marked_determined κs a asked x y left other p q = (said_alike (λ _. true) (λ _ _ _. refl) x y (p.0 ∙ sym q.0), λ i. (tt, ((p.1 ∙ sym q.1) i, tt)))

pub size_of_determined : Determines size-of-fn.ended type_size.Asked type_size.Learnt
size_of_determined κs a asked x y left other p q = (p ∙ sym q, refl)

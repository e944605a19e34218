-- Each promise determines its call.
use mathlib.Core.Path.{refl, sym, ap, ◌∙◌}
use Prim.Native.Nat.{ℕ}
use Rattle.promise.specs.Determines.{Determines}
use Rattle.measure.proofs.Alike.{answers_alike, said_alike}
use Rattle.records.specs.declared.record.Record.{Record}
use Rattle.records.specs.declared.record.Recorded.{Recorded}
use Rattle.records.specs.contracts.kind.KindTryFromU8.try_from as try-from-fn
use Rattle.records.proofs.kind.KindTryFromU8.try_from.Reads as try-from
use Rattle.records.specs.contracts.kind.Kind.body_length as body-length-fn
use Rattle.records.proofs.kind.Kind.body_length.Reads as body-length
use Rattle.records.specs.contracts.record.record_at as record-at-fn
use Rattle.records.proofs.record.record_at.Reads as record-at

pub try_from_determined : Determines try-from-fn.ended try-from.Asked try-from.Learnt
try_from_determined κs a asked x y left other p q = (answers_alike x y (p ∙ sym q), refl)

pub body_length_determined : Determines body-length-fn.ended body-length.Asked body-length.Learnt
body_length_determined κs a asked x y left other p q = (p ∙ sym q, refl)

pub record_at_determined : Determines record-at-fn.ended record-at.Asked record-at.Learnt
record_at_determined κs a asked x y left other p q = (said_alike (λ (read : Recorded). (read.record, read.next)) (λ x y e. let one = ap (λ (w : Record × ℕ). w.0) e in let two = ap (λ (w : Record × ℕ). w.1) e in λ i. record { «record» = one i; next = two i }) x y (p ∙ sym q), refl)

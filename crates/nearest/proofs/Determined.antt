-- Each promise determines its call.
use mathlib.Core.Path.{◌≡◌, refl, sym, ap, ◌∙◌}
use contract.Notation.{connectives}
use seplogic.Ra.Ura.{Ura}
use types.Logic.{Logic}
use prog.Memory.{Memory}
use prog.Routine.{Routine}
use base.Logic.{SProp}
use contract.Monad.{Fun}
use contract.Lifetimes.{Lfts}
use denote.Triple.Entry.{Args, Res}
use denote.Triple.Clauses.{AtExit}
use Rattle.promise.specs.Determines.{Determines, Promise}
use Rattle.refusal.proofs.Answers.{not_both}
use Rattle.refusal.proofs.Numbers.{one_to_twenty}
use Rattle.std.specs.Prelude.{Result, Ok, Err}
use Rattle.refusal.specs.declared.Refusal.{Refusal}
use Rattle.seek.specs.declared.answered.Found.{Found}
use Rattle.nearest.specs.Promise.{numbers_of}
use Rattle.nearest.specs.Kept.{Kept}
use Rattle.nearest.specs.contracts.nearest as nearest-fn
use Rattle.nearest.specs.contracts.ask.asked as asked-fn
use Rattle.nearest.proofs.ask.asked.Reads as asked
use Rattle.nearest.specs.contracts.on_place.asked_on as asked-on-fn
use Rattle.nearest.proofs.on_place.asked_on.Reads as asked-on
use Rattle.nearest.specs.contracts.answer.answer_of as answer-of-fn
use Rattle.nearest.proofs.answer.answer_of.Reads as answer-of

-- answers with the same numbers are equal
answers_alike : (r s : Result Found Refusal) → numbers_of r ≡ numbers_of s → r ≡ s
answers_alike (Ok f) (Ok g) e =
    let joints : f.joints ≡ g.joints = cc in
    let boxes : f.boxes ≡ g.boxes = cc in
    ap Ok (λ i. record { joints = joints i; boxes = boxes i })
answers_alike (Ok f) (Err b) e = absurd (not_both (sym e))
answers_alike (Err a) (Ok g) e = absurd (not_both e)
answers_alike (Err a) (Err b) e = ap Err (one_to_twenty.distinct a b cc)

-- ---- the entry

-- its promise, as its contract has it: of its arguments, what is returned, and what is found in the lists at exit
abbrev pub Promised : Promise nearest-fn.ended
Promised κs a r e =
    Kept a.0.height a.0.bytes.now a.0.directory.now a.1.0 a.1.1.0 a.1.1.1.0
    (record { answers = a.1.1.1.1.0.now; keys = a.1.1.1.1.1.0.now; corners = a.1.1.1.1.1.1.0.now; trail = a.1.1.1.1.1.1.1.0.now }) r
    (record { answers = e.1.1.1.1.0.now; keys = e.1.1.1.1.1.0.now; corners = e.1.1.1.1.1.1.0.now; trail = e.1.1.1.1.1.1.1.0.now })

-- the contract says so, in every model
pub nearest_promises : {M : Type 1} {𝓤 : Ura M} (𝓛 : Logic 𝓤) (mem : Memory → SProp 𝓤) (run : Routine → Fun 𝓤) (κs : Lfts (nearest-fn.signature).lifetimes)
    (a : Args nearest-fn.signature κs) (r : Res nearest-fn.signature κs) (e : AtExit nearest-fn.ended κs)
    → (nearest-fn.clauses 𝓛 mem run κs a).ensures tt r e ≡ (connectives 𝓤).⌜◌⌝ (Promised κs a r e)
nearest_promises 𝓛 mem run κs a r e = refl

pub nearest_determined : Determines nearest-fn.ended (λ κs a. Unit {0}) Promised
nearest_determined κs a asked x y left other p q =
    let answers = p.answers ∙ sym q.answers in
    let keys = p.keys ∙ sym q.keys in
    let corners = p.corners ∙ sym q.corners in
    let trail = p.trail ∙ sym q.trail in
    (answers_alike x y (p.number ∙ sym q.number), λ i. (tt, (tt, (tt, (tt, (answers i, (keys i, (corners i, (trail i, tt)))))))))

-- ---- and what other crates call

pub asked_determined : Determines asked-fn.ended asked.Asked asked.Learnt
asked_determined κs a given x y left other p q =
    let keys = p.keys_left ∙ sym q.keys_left in
    let corners = p.corners_left ∙ sym q.corners_left in
    let trail = p.trail_left ∙ sym q.trail_left in
    (answers_alike x y (p.number ∙ sym q.number), λ i. (tt, (tt, (tt, (tt, (keys i, (corners i, (trail i, tt))))))))

pub asked_on_determined : Determines asked-on-fn.ended asked-on.Asked asked-on.Learnt
asked_on_determined κs a given x y left other p q =
    let keys = p.keys_left ∙ sym q.keys_left in
    let corners = p.corners_left ∙ sym q.corners_left in
    let trail = p.trail_left ∙ sym q.trail_left in
    (answers_alike x y (p.number ∙ sym q.number), λ i. (tt, (tt, (tt, (tt, (keys i, (corners i, (trail i, tt))))))))

pub answer_of_determined : Determines answer-of-fn.ended answer-of.Asked answer-of.Learnt
answer_of_determined κs a given x y left other p q = (p ∙ sym q, refl)

-- Two results that say the same in the paper's numbers are one.
use mathlib.Core.Path.{◌≡◌, sym, ap}
use Rattle.std.specs.Prelude.{Result, Ok, Err}
use Rattle.refusal.specs.declared.Refusal.{Refusal}
use Rattle.refusal.specs.Results.{answer_of, answer_by}
use Rattle.refusal.proofs.Answers.{not_both}
use Rattle.refusal.proofs.Numbers.{same_refusal}

pub answers_alike : {A : Type 0} (r s : Result A Refusal) → answer_of r ≡ answer_of s → r ≡ s
answers_alike (Ok x) (Ok y) e = cc
answers_alike (Ok x) (Err s) e = absurd (not_both (sym e))
answers_alike (Err r) (Ok y) e = absurd (not_both e)
answers_alike (Err r) (Err s) e = ap Err (same_refusal r s e)

-- in other words, of which no two say the same
pub said_alike : {A B : Type 0} (say : A → B) → ((x y : A) → say x ≡ say y → x ≡ y) → (r s : Result A Refusal) → answer_by say r ≡ answer_by say s → r ≡ s
said_alike say one (Ok x) (Ok y) e = ap Ok (one x y (let same : say x ≡ say y = cc in same))
said_alike say one (Ok x) (Err s) e = absurd (not_both (sym e))
said_alike say one (Err r) (Ok y) e = absurd (not_both e)
said_alike say one (Err r) (Err s) e = ap Err (same_refusal r s e)

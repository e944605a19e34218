-- The numbers of refusal are 1 to 20, each of one refusal.
use Prim.Native.Nat.{ℕ, ◌-◌, ◌≤◌}
use mathlib.Core.Path.{◌≡◌, refl, sym, ap, ◌∙◌}
use mathlib.Core.List.{List, [], ◌∷◌, map}
use native.Mathlib.Omega.{arith}
use lib.ListN.{get_or}
use Rattle.refusal.specs.declared.Refusal.{Refusal}
use Rattle.refusal.specs.declared.Refusal.TheVariants.{Height, CutShort, EmptyGroup, LeftOver, TooManyJoints, Directory, Place, Count, AnswerRoom, WorkRoom, TrailRoom, Cell, Measure, Kind, OutOfPlace, RecordCut, End, BitmapRoom, SheetLength, UnequalLists}
use Rattle.refusal.specs.Numbers.{number_of}
use Rattle.refusal.specs.Answer.{Answer, Refused}
use Rattle.refusal.proofs.Answers.{same_number}

-- the refusals in the order of the table
abbrev pub refusals : List Refusal
refusals =
    Height ∷ CutShort ∷ EmptyGroup ∷ LeftOver ∷ TooManyJoints ∷ Directory ∷ Place ∷ Count ∷ AnswerRoom ∷ WorkRoom ∷ TrailRoom ∷ Cell ∷ Measure ∷ Kind
    ∷ OutOfPlace ∷ RecordCut ∷ End ∷ BitmapRoom ∷ SheetLength ∷ UnequalLists ∷ []

-- each stands in the table, at its number, which is not 0
found : (r : Refusal) → (1 ≤ number_of r) × (get_or refusals (number_of r - 1) Height ≡ r)
found Height = (omega arith, refl)
found CutShort = (omega arith, refl)
found EmptyGroup = (omega arith, refl)
found LeftOver = (omega arith, refl)
found TooManyJoints = (omega arith, refl)
found Directory = (omega arith, refl)
found Place = (omega arith, refl)
found Count = (omega arith, refl)
found AnswerRoom = (omega arith, refl)
found WorkRoom = (omega arith, refl)
found TrailRoom = (omega arith, refl)
found Cell = (omega arith, refl)
found Measure = (omega arith, refl)
found Kind = (omega arith, refl)
found OutOfPlace = (omega arith, refl)
found RecordCut = (omega arith, refl)
found End = (omega arith, refl)
found BitmapRoom = (omega arith, refl)
found SheetLength = (omega arith, refl)
found UnequalLists = (omega arith, refl)

-- the numbers are 1 to 20 in the order of the table; no two refusals have the same, and none has 0, a served call's number
pub record OneToTwenty : Type 0 where
  pub in_order : map number_of refusals ≡ 1 ∷ 2 ∷ 3 ∷ 4 ∷ 5 ∷ 6 ∷ 7 ∷ 8 ∷ 9 ∷ 10 ∷ 11 ∷ 12 ∷ 13 ∷ 14 ∷ 15 ∷ 16 ∷ 17 ∷ 18 ∷ 19 ∷ 20 ∷ []
  pub stands : (r : Refusal) → get_or refusals (number_of r - 1) Height ≡ r
  pub distinct : (r s : Refusal) → number_of r ≡ number_of s → r ≡ s
  pub not_zero : (r : Refusal) → 1 ≤ number_of r

pub one_to_twenty : OneToTwenty
one_to_twenty = record {
  in_order = refl;
  stands = λ r. (found r).1;
  distinct = λ r s e. sym (found r).1 ∙ ap (λ (n : ℕ). get_or refusals (n - 1) Height) e ∙ (found s).1;
  not_zero = λ r. (found r).0;
}

-- two answers that are refused alike are refused by the same refusal
pub same_refusal : {A : Type 0} (r s : Refusal) → ◌≡◌ {A = Answer A} (Refused (number_of r)) (Refused (number_of s)) → r ≡ s
same_refusal r s e = one_to_twenty.distinct r s (same_number e)

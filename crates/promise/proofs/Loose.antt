-- What a promise may leave open: three promises of a call that is lent one list of bytes for writing, and returns a number.
use Prim.Native.Nat.{ℕ, ◌≤◌}
use mathlib.Core.Path.{◌≡◌, sym, ◌∙◌, ap, refl}
use mathlib.Core.List.{List, [], ◌∷◌}
use native.Mathlib.Omega.{arith}
use lib.ListN.{length}
use contract.Lifetimes.{Lfts}
use denote.Builtin.{u8, u32, SliceRefMutOf}
use denote.Signature.{plain}
use denote.Exit.{yes}
use denote.Triple.Clauses.{Ended}
use denote.Triple.Entry.{Args}
use Rattle.promise.specs.Determines.{Requires, Promise, Determines}

abbrev call : Ended
call = record {
  signature = record {
    lifetimes = 1;
    outlives = [];
    params = SliceRefMutOf (0 ∷ []) tt (plain (λ κs. u8)) (λ κs. tt) ∷ [];
    result = plain (λ κs. u32);
  };
  kept = (yes, tt);
}

-- it requires nothing
abbrev nothing : Requires call
nothing κs a = Unit

-- the number is 1, and the list is left empty
abbrev tight : Promise call
tight κs a r e = (r ≡ 1) × (e.0.now ≡ [])

-- the number is at most 1, and the list is left empty
abbrev loose : Promise call
loose κs a r e = (r ≤ 1) × (e.0.now ≡ [])

-- the number is 1; of the list nothing is said
abbrev untold : Promise call
untold κs a r e = r ≡ 1

pub tight_determines : Determines call nothing tight
tight_determines κs a asked x y left other p q = (p.0 ∙ sym q.0, λ i. ((p.1 ∙ sym q.1) i, tt))

-- 0 and 1 both keep it
pub loose_leaves_open : (κs : Lfts 1) → Args call.signature κs → Determines call nothing loose → ⊥
loose_leaves_open κs a d = let same : ◌≡◌ {A = ℕ} 0 1 = (d κs a tt 0 1 ([], tt) ([], tt) (omega arith, refl) (omega arith, refl)).0 in omega arith

-- an empty list and one with a byte both keep it
pub untold_leaves_open : (κs : Lfts 1) → Args call.signature κs → Determines call nothing untold → ⊥
untold_leaves_open κs a d = let same = ap (λ (left : List ℕ × Unit). length left.0) (d κs a tt 1 1 ([], tt) (0 ∷ [], tt) refl refl).1 in omega arith

-- The work list filled with the codes of a sheet's joints.
use Prim.Native.Nat.{ℕ, zero, suc, ◌+◌, ◌<◌, ◌≤◌}
use mathlib.Core.Path.{◌≡◌, refl, sym, ◌∙◌}
use mathlib.Core.List.{List, [], ◌++◌, append-nil}
use native.Mathlib.Omega.{arith}
use lib.ListN.{length, get_or, set, take, drop, length-append}
use Rattle.std.proofs.lemmas.List.{length-take-le, drop_all}
use lib.Seq.{drop-cons, set_at, append_snoc}
use Rattle.refusal.specs.Answer.{Answer, Served, Refused}
use Rattle.records.specs.declared.kind.Stage.TheVariants.{Joints}
use Rattle.records.specs.declared.record.Record.{Record}
use Rattle.records.specs.Records.{record_at, with_next}
use Rattle.sheet.specs.Sheet.{joint_offset}
use Rattle.sheet.specs.Codes.{code_in, code_at, codes_at}
use Rattle.sheet.proofs.Scanning.{read_parts, read_refused}

-- as many codes as joints
pub length_codes : (h : ℕ) (sheet : List ℕ) (n : ℕ) → length (codes_at h sheet n) ≡ n
unfolding codes_at
length_codes h sheet zero = refl
length_codes h sheet (suc n) = rw (length-append, length_codes h sheet n) (omega arith)

-- the code of a record that is read, and of one that is refused
pub code_served : (h : ℕ) (sheet : List ℕ) (at : ℕ) (r : Record) (next : ℕ) → ◌≡◌ {A = Answer (Record × ℕ)} (Served (r, next)) (with_next at (record_at Joints h sheet at)) → code_at h sheet at ≡ code_in h r
unfolding code_at
code_served h sheet at r next e = rw (read_parts at (record_at Joints h sheet at) r next (sym e)).0

pub code_refused : (h : ℕ) (sheet : List ℕ) (at n : ℕ) → Refused n ≡ with_next at (record_at Joints h sheet at) → code_at h sheet at ≡ 0
unfolding code_at
code_refused h sheet at n e = rw (read_refused at (record_at Joints h sheet at) n (sym e))

-- at first no place is filled
pub filled_start : (h : ℕ) (sheet places : List ℕ) → places ≡ codes_at h sheet 0 ++ drop 0 places
unfolding codes_at
filled_start h sheet places = refl

-- one more
pub filled_step : (h : ℕ) (sheet : List ℕ) (i z : ℕ) (places filled : List ℕ) → filled ≡ codes_at h sheet i ++ drop i places → i < length places → z ≡ code_at h sheet (joint_offset i)
    → set filled i z ≡ codes_at h sheet (i + 1) ++ drop (i + 1) places
unfolding codes_at
filled_step h sheet i z places filled k room e =
    let more : i + 1 ≡ suc i = omega arith in
    rw (more, k, e, drop-cons places i 0 room, append_snoc)
    (set_at (codes_at h sheet i) (get_or places i 0) (drop (suc i) places) (code_at h sheet (joint_offset i)) i (length_codes h sheet i))

-- at last all of the first n
pub filled_end : (h : ℕ) (sheet : List ℕ) (n i : ℕ) (work filled : List ℕ) → filled ≡ codes_at h sheet i ++ drop i (take n work) → n ≤ length work → length (take n work) ≤ i → i ≤ length (take n work)
    → filled ≡ codes_at h sheet n
filled_end h sheet n i work filled k room over within =
    let long : length (take n work) ≡ n = length-take-le n work room in
    let same : i ≡ n = omega arith in
    let none : drop n (take n work) ≡ [] = drop_all n (take n work) (omega arith) in
    k ∙ rw (same, none, append-nil)

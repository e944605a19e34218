-- One record: its kind by its byte, and the tests in their order.
use Prim.Native.Nat.{ℕ, ◌+◌, ◌-◌, ◌≤◌, ◌<◌}
use mathlib.Core.Bool.{Bool, true, false}
use mathlib.Core.Path.{◌≡◌, refl}
use mathlib.Core.List.{List}
use native.Mathlib.Omega.{arith}
use Rattle.std.proofs.Common.{rules}
use lib.ListN.{length, get_or, take, drop, length-drop}
use lib.Seq.{take_all}
use borrow.Author.Tests.{le-leb, lt-leb}
use Rattle.refusal.specs.Answer.{Answer, Served, Refused, ◌unless◌, ◌then◌, ◌into◌}
use Rattle.refusal.proofs.Answers.{not_both}
use Rattle.records.specs.declared.kind.Kind.{Kind}
use Rattle.records.specs.declared.kind.Kind.TheVariants.{Board, Joint, Question, Window, End}
use Rattle.records.specs.declared.kind.Stage.{Stage}
use Rattle.records.specs.declared.record.Record.{Record}
use Rattle.records.specs.Kinds.{kind_of, body_length, in_place}
use Rattle.records.specs.Records.{body_of, record_at, kind_in}

-- what is served in the end was served at first
pub went_into : {A B : Type 0} {P : Type 0} (a : Answer A) (f : A → Answer B) {y : B} → (a into f) ≡ Served y → ((x : A) → a ≡ Served x → f x ≡ Served y → P) → P
went_into (Served x) f e go = go x refl e
went_into (Refused n) f e go = absurd (not_both e)

-- what follows the byte of kind, as the code takes it
pub rest_of : (sheet : List ℕ) (at : ℕ) → take (length sheet - at) (drop at sheet) ≡ drop at sheet
rest_of sheet at = take_all (length sheet - at) (drop at sheet) (rw length-drop (omega arith))

module _ (stage : Stage) (h : ℕ) (sheet : List ℕ) (at : ℕ) where
  -- a byte of no kind
  pub no_kind : kind_of (get_or sheet at 0) ≡ Refused 14 → record_at stage h sheet at ≡ Refused 14
  unfolding record_at
  no_kind e = rw e

  -- a record out of place
  pub out_of_place : (kind : Kind) → kind_of (get_or sheet at 0) ≡ Served kind → in_place stage kind ≡ false → record_at stage h sheet at ≡ Refused 15
  unfolding record_at
  out_of_place kind e p = rw (e, p)

  -- a record cut short
  pub cut_short : (kind : Kind) → kind_of (get_or sheet at 0) ≡ Served kind → in_place stage kind ≡ true → length sheet < at + 1 + body_length kind → record_at stage h sheet at ≡ Refused 16
  unfolding record_at
  cut_short kind e p short = rw (e, p, lt-leb (at + 1 + body_length kind) (length sheet) short)

  -- any other is what its body says
  pub by_body : (kind : Kind) → kind_of (get_or sheet at 0) ≡ Served kind → in_place stage kind ≡ true → at + 1 + body_length kind ≤ length sheet → record_at stage h sheet at ≡ body_of h kind (drop (at + 1) sheet)
  unfolding record_at
  by_body kind e p long = rw (e, p, le-leb (at + 1 + body_length kind) (length sheet) long)

-- what an answer serves is a record of a kind
abbrev OfKind : Kind → Answer Record → Type 0
OfKind kind (Served r) = kind_in r ≡ kind
OfKind kind (Refused n) = Unit

into_of_kind : {A : Type 0} (kind : Kind) (a : Answer A) (f : A → Answer Record) → ((x : A) → OfKind kind (f x)) → OfKind kind (a into f)
into_of_kind kind (Served x) f of = of x
into_of_kind kind (Refused n) f of = tt

unless_of_kind : (kind : Kind) (n : ℕ) (t : Bool) (rest : Answer Record) → OfKind kind rest → OfKind kind (n unless t then rest)
unless_of_kind kind n true rest of = of
unless_of_kind kind n false rest of = tt

body_of_kind : (h : ℕ) (kind : Kind) (body : List ℕ) → OfKind kind (body_of h kind body)
unfolding body_of kind_in
body_of_kind h Board body = search (rules, unless_of_kind)
body_of_kind h Joint body = search (rules, into_of_kind, unless_of_kind)
body_of_kind h Question body = search (rules, into_of_kind)
body_of_kind h Window body = search (rules, into_of_kind)
body_of_kind h End body = refl

-- what a body of a kind says is a record of that kind
pub kind_of_body : (h : ℕ) (kind : Kind) (body : List ℕ) (r : Record) → body_of h kind body ≡ Served r → kind_in r ≡ kind
kind_of_body h kind body r e = let so : OfKind kind (body_of h kind body) = body_of_kind h kind body in rw e at so

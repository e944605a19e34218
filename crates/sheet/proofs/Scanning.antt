-- The scan: what each record leaves to do gives what there was to do.
use Prim.Native.Nat.{ℕ, zero, suc, ◌+◌, ◌≤◌, ◌<◌}
use mathlib.Core.Bool.{Bool, true, false, ◌&&◌}
use mathlib.Core.Path.{◌≡◌, refl, sym, ap, ◌∙◌}
use mathlib.Core.List.{List, [], ◌∷◌, ◌++◌}
use native.Mathlib.Omega.{arith}
use lib.ListN.{length, get_or, drop, length-append}
use lib.Dec.{leb}
use borrow.Author.Tests.{le-leb, lt-leb, leb-true, lt-ltb, le-ltb, eq-eqb, ne_eqb}
use Rattle.std.specs.Prelude.{Some, None, Result, Ok, Err, MatchResult}
use Rattle.refusal.specs.declared.Refusal.{Refusal}
use Rattle.refusal.specs.declared.Refusal.TheVariants.{End as NoEnd}
use Rattle.sheet.specs.declared.RefusedAt.{RefusedAt as Turned}
use Rattle.refusal.specs.Numbers.{number_of}
use Rattle.refusal.specs.Answer.{Answer, Served, Refused, ◌unless◌, ◌then◌}
use Rattle.refusal.proofs.Answers.{not_both, passed}
use Rattle.board.specs.Limits.{max_height}
use Rattle.records.specs.declared.kind.Kind.{Kind}
use Rattle.records.specs.declared.kind.Stage.{Stage}
use Rattle.records.specs.declared.kind.Stage.TheVariants.{Start}
use Rattle.records.specs.declared.record.Record.{Record}
use Rattle.records.specs.declared.record.Record.TheVariants.{Board, Joint, Question, Window, End}
use Rattle.sheet.specs.declared.scan.Place.{Place}
use Rattle.records.specs.Kinds.{kind_of, body_length, in_place, stage_after}
use Rattle.records.specs.Records.{body_of, record_at, kind_in, next_after, with_next}
use Rattle.sheet.specs.Sheet.{Verdict, Accepted, RefusedAt, ◌onward◌, height_after, with_rest, records, sheet_of, max_sheet, height_in, cell_in, cells_in}
use Rattle.sheet.specs.Scan.{scan_of, is_end, start_place, place_after, from, Ahead, Stepped}
use Rattle.records.proofs.Recording.{went_into, kind_of_body}

-- a record that is read, by its two parts
pub read_parts : (at : ℕ) (a : Answer Record) (r : Record) (next : ℕ) → ◌≡◌ {A = Answer (Record × ℕ)} (with_next at a) (Served (r, next)) → (a ≡ Served r) × (next ≡ next_after at r)
read_parts at (Served x) r next e =
    let both : ◌≡◌ {A = Record × ℕ} (x, next_after at x) (r, next) = cc in
    let same : x ≡ r = ap (λ (w : Record × ℕ). w.0) both in
    let far : next ≡ next_after at x = sym (ap (λ (w : Record × ℕ). w.1) both) in
    (rw same, rw same at far)
read_parts at (Refused n) r next e = absurd (not_both e)

-- and one that is refused
pub read_refused : (at : ℕ) (a : Answer Record) (n : ℕ) → with_next at a ≡ Refused n → a ≡ Refused n
read_refused at (Served x) n e = absurd (not_both (sym e))
read_refused at (Refused k) n e = let same : k ≡ n = cc in rw same

-- what a call returns, with its refusal at an offset: what it returned before
pub turned_ok : {A : Type 0} {x : A} (r : Result A Refusal) (s : Result A Turned) (at : ℕ) → MatchResult r (λ y. s ≡ Ok y) (λ e. s ≡ Err (record { refusal = e; offset = at })) → s ≡ Ok x → r ≡ Ok x
turned_ok (Ok y) s at m e = cc
turned_ok (Err y) s at m e = cc

pub turned_err : {A : Type 0} {x : Turned} (r : Result A Refusal) (s : Result A Turned) (at : ℕ) → MatchResult r (λ y. s ≡ Ok y) (λ e. s ≡ Err (record { refusal = e; offset = at })) → s ≡ Err x
    → (e : Refusal) × (r ≡ Err e) × (x ≡ record { refusal = e; offset = at })
turned_err (Ok y) s at m e = cc
turned_err (Err y) s at m e = (y, refl, cc)

-- the height that a body says is one of a board
low_body : (h : ℕ) (body : List ℕ) (r : Record) → h ≤ max_height → body_of h (kind_in r) body ≡ Served r → height_after h r ≤ max_height
unfolding body_of kind_in height_after
low_body h body (Board k) low e =
    let x = get_or body 0 0 in
    let t = passed 1 (leb 1 x && leb x max_height) (Served (Board x)) e in
    let same : k ≡ x = (let g = t.1 in cc) in
    rw same (leb-true x max_height (second (leb 1 x) (leb x max_height) t.0))
  where
    second : (s t : Bool) → s && t ≡ true → t ≡ true
    second true t e = e
    second false t e = let z : ◌≡◌ {A = ℕ} 0 1 = cc in absurd (omega arith)
low_body h body (Joint r c) low e = low
low_body h body (Question k r c) low e = low
low_body h body (Window a b c d) low e = low
low_body h body End low e = low

-- what is known of a record that is read
pub record ReadAs (stage : Stage) (h : ℕ) (sheet : List ℕ) (at : ℕ) (r : Record) : Type 0 where
  pub kind : kind_of (get_or sheet at 0) ≡ Served (kind_in r)
  pub stands : in_place stage (kind_in r) ≡ true
  pub long : next_after at r ≤ length sheet
  pub body : body_of h (kind_in r) (drop (at + 1) sheet) ≡ Served r

pub read_as : (stage : Stage) (h : ℕ) (sheet : List ℕ) (at : ℕ) (r : Record) → record_at stage h sheet at ≡ Served r → ReadAs stage h sheet at r
unfolding record_at
read_as stage h sheet at r e = went_into (kind_of (get_or sheet at 0)) _ e by_kind
  where
    by_kind : (kind : Kind) → kind_of (get_or sheet at 0) ≡ Served kind
        → (15 unless in_place stage kind then 16 unless leb (at + 1 + body_length kind) (length sheet) then body_of h kind (drop (at + 1) sheet)) ≡ Served r → ReadAs stage h sheet at r
    by_kind kind known e =
        let p = passed 15 (in_place stage kind) (16 unless leb (at + 1 + body_length kind) (length sheet) then body_of h kind (drop (at + 1) sheet)) e in
        let q = passed 16 (leb (at + 1 + body_length kind) (length sheet)) (body_of h kind (drop (at + 1) sheet)) p.1 in
        let same : kind_in r ≡ kind = kind_of_body h kind (drop (at + 1) sheet) r q.1 in
        record {
          kind = rw same known;
          stands = rw same p.0;
          long = rw same (leb-true (at + 1 + body_length kind) (length sheet) q.0);
          body = rw same q.1;
        }

-- after a record the height is still that of a board
pub low_after : (stage : Stage) (h : ℕ) (sheet : List ℕ) (at : ℕ) (r : Record) → h ≤ max_height → record_at stage h sheet at ≡ Served r → height_after h r ≤ max_height
low_after stage h sheet at r low e = low_body h (drop (at + 1) sheet) r low (read_as stage h sheet at r e).body

-- a record has at most one cell
pub one_cell : (r : Record) → length (cell_in r) ≤ 1
unfolding cell_in
one_cell (Board h) = omega arith
one_cell (Joint r c) = omega arith
one_cell (Question k r c) = omega arith
one_cell (Window a b c d) = omega arith
one_cell End = omega arith

-- what is said of a verdict by what is said of the records
onward_same : {A B : Type 0} (v : Verdict A) (f g : A → Verdict B) → ((x : A) → f x ≡ g x) → (v onward f) ≡ (v onward g)
onward_same (Accepted x) f g e = e x
onward_same (RefusedAt n at) f g e = refl

-- one record more, and then what is said of all
onward_more : {B : Type 0} (v : Verdict (List Record)) (r : Record) (f : List Record → Verdict B) → ((v onward λ rs. Accepted (r ∷ rs)) onward f) ≡ (v onward λ rs. f (r ∷ rs))
onward_more (Accepted x) r f = refl
onward_more (RefusedAt n at) r f = refl

-- what is said of records after a height and a number of joints
abbrev said : ℕ → ℕ → List Record → Verdict (List ℕ)
said h joints rs = Accepted (height_in h rs ∷ (joints + length (cells_in rs)) ∷ [])

-- one record more: its height, and its cell among the joints
said_more : (h joints : ℕ) (r : Record) (rs : List Record) → said (height_after h r) (joints + length (cell_in r)) rs ≡ said h joints (r ∷ rs)
unfolding height_in cells_in
said_more h joints r rs = let many : joints + length (cell_in r) + length (cells_in rs) ≡ joints + length (cell_in r ++ cells_in rs) = omega (arith, length-append (cell_in r) (cells_in rs)) in rw many

-- a record that is not the end comes before the rest
pub before_rest : (sheet : List ℕ) (next : ℕ) (r : Record) (v : Verdict (List Record)) → is_end r ≡ false → with_rest sheet next r v ≡ (v onward λ rs. Accepted (r ∷ rs))
unfolding with_rest
before_rest sheet next (Board h) v go = refl
before_rest sheet next (Joint r c) v go = refl
before_rest sheet next (Question k r c) v go = refl
before_rest sheet next (Window a b c d) v go = refl
before_rest sheet next End v go = let z : ◌≡◌ {A = ℕ} 0 1 = cc in absurd (omega arith)

module _ (sheet : List ℕ) (p : Place) (lt : p.at < length sheet) (n : ℕ) where
  -- a record that is refused
  pub from_refused : (k : ℕ) → record_at p.stage p.height sheet p.at ≡ Refused k → RefusedAt k p.at ≡ from (suc n) sheet p
  unfolding from records
  from_refused k e = rw (lt-ltb p.at (length sheet) lt, e)

  -- a record that is read
  from_read : (r : Record) → record_at p.stage p.height sheet p.at ≡ Served r
      → from (suc n) sheet p ≡ (with_rest sheet (next_after p.at r) r (records n (stage_after (kind_in r)) (height_after p.height r) sheet (next_after p.at r)) onward said p.height p.joints)
  unfolding from records
  from_read r e = rw (lt-ltb p.at (length sheet) lt, e)

  -- the end with bytes after it
  pub from_bytes_after : record_at p.stage p.height sheet p.at ≡ Served End → (next_after p.at End ≡ length sheet → ⊥) → RefusedAt 17 (next_after p.at End) ≡ from (suc n) sheet p
  unfolding with_rest
  from_bytes_after e more = rw (from_read End e, ne_eqb (next_after p.at End) (length sheet) more)

  -- the end in its place
  pub from_end : record_at p.stage p.height sheet p.at ≡ Served End → next_after p.at End ≡ length sheet → Accepted (p.height ∷ p.joints ∷ []) ≡ from (suc n) sheet p
  unfolding with_rest height_in height_after cells_in cell_in
  from_end e last = let none : p.joints + 0 ≡ p.joints = omega arith in rw (from_read End e, eq-eqb (next_after p.at End) (length sheet) last, none)

  -- any other record
  pub from_on : (r : Record) → is_end r ≡ false → record_at p.stage p.height sheet p.at ≡ Served r → from n sheet (place_after p r (next_after p.at r)) ≡ from (suc n) sheet p
  unfolding from place_after
  from_on r go e =
      let rest = records n (stage_after (kind_in r)) (height_after p.height r) sheet (next_after p.at r) in
      rw (from_read r e, before_rest sheet (next_after p.at r) r rest go, onward_more rest r (said p.height p.joints))
      (onward_same rest _ _ (said_more p.height p.joints r))

-- a record that is not the end
not_end : (r : Record) → (r ≡ End → ⊥) → is_end r ≡ false
not_end (Board h) other = refl
not_end (Joint r c) other = refl
not_end (Question k r c) other = refl
not_end (Window a b c d) other = refl
not_end End other = absurd (other refl)

-- the end is the record that says so
pub end_is : (r : Record) → is_end r ≡ true → r ≡ End
end_is (Board h) e = let z : ◌≡◌ {A = ℕ} 0 1 = cc in absurd (omega arith)
end_is (Joint r c) e = let z : ◌≡◌ {A = ℕ} 0 1 = cc in absurd (omega arith)
end_is (Question k r c) e = let z : ◌≡◌ {A = ℕ} 0 1 = cc in absurd (omega arith)
end_is (Window a b c d) e = let z : ◌≡◌ {A = ℕ} 0 1 = cc in absurd (omega arith)
end_is End e = refl

module _ (sheet : List ℕ) (p : Place) (lt : p.at < length sheet) where
  -- a record that is refused is the answer
  pub stepped_refused : (refusal : Refusal) → with_next p.at (record_at p.stage p.height sheet p.at) ≡ Refused (number_of refusal) → Stepped sheet p (Err (record { refusal = refusal; offset = p.at }))
  stepped_refused refusal e =
      let known = read_refused p.at (record_at p.stage p.height sheet p.at) (number_of refusal) e in
      record { goes = λ n. from_refused sheet p lt n (number_of refusal) known; farther = λ q e. cc }

  module _ (r : Record) (next : ℕ) (e : ◌≡◌ {A = Answer (Record × ℕ)} (with_next p.at (record_at p.stage p.height sheet p.at)) (Served (r, next))) where
    -- the offset of the next record
    pub next_is : next ≡ next_after p.at r
    next_is = (read_parts p.at (record_at p.stage p.height sheet p.at) r next e).1

    -- any record but the end: it goes on after it
    pub stepped_on : p.height ≤ max_height → p.joints ≤ p.at → (r ≡ End → ⊥) → Stepped sheet p (Ok (Some (place_after p r next)))
    unfolding place_after
    stepped_on low few go =
        let known = read_parts p.at (record_at p.stage p.height sheet p.at) r next e in
        record {
          goes = λ n. rw known.1 (from_on sheet p lt n r (not_end r go) known.0);
          farther = λ q e.
              let same : q ≡ place_after p r next = cc in
              rw same (
                omega (arith, next_is),
                record {
                  within = omega (arith, next_is, (read_as p.stage p.height sheet p.at r known.0).long);
                  low = low_after p.stage p.height sheet p.at r low known.0;
                  few = omega (arith, next_is, one_cell r);
                },
              );
        }

    -- the end with bytes after it
    pub stepped_more : r ≡ End → (next ≡ length sheet → ⊥) → Stepped sheet p (Err (record { refusal = NoEnd; offset = next }))
    stepped_more same more =
        let known = read_parts p.at (record_at p.stage p.height sheet p.at) r next e in
        let far : next ≡ next_after p.at End = rw same at known.1 in
        record {
          goes = λ n. rw far (from_bytes_after sheet p lt n (rw same at known.0) (λ f. more (far ∙ f)));
          farther = λ q e. cc;
        }

    -- the end in its place
    pub stepped_end : r ≡ End → next ≡ length sheet → Stepped sheet p (Ok None)
    stepped_end same none =
        let known = read_parts p.at (record_at p.stage p.height sheet p.at) r next e in
        let far : next ≡ next_after p.at End = rw same at known.1 in
        record {
          goes = λ n. from_end sheet p lt n (rw same at known.0) (sym far ∙ none);
          farther = λ q e. cc;
        }

-- the loop's invariant: what is left to do from a place gives the whole answer
pub record Scanning (sheet : List ℕ) (p : Place) : Type 0 where
  pub ahead : Ahead sheet p
  pub left : (n : ℕ) × (length sheet ≤ n + p.at) × (scan_of sheet ≡ from n sheet p)

-- at first all is left
pub scanning_start : (sheet : List ℕ) → length sheet ≤ max_sheet → Scanning sheet start_place
unfolding max_height scan_of sheet_of from
scanning_start sheet low = record {
  ahead = record { within = omega arith; low = omega arith; few = omega arith };
  left = (length sheet, omega arith, rw (le-leb (length sheet) max_sheet low) (onward_same (records (length sheet) Start 0 sheet 0) _ _ none_before));
}
  where
    none_before : (rs : List Record) → ◌≡◌ {A = Verdict (List ℕ)} (Accepted (height_in 0 rs ∷ length (cells_in rs) ∷ [])) (said 0 0 rs)
    none_before rs = let none : length (cells_in rs) ≡ 0 + length (cells_in rs) = omega arith in ap (λ (n : ℕ). Accepted (height_in 0 rs ∷ n ∷ [])) none

-- a sheet that is too long
pub scan_too_long : (sheet : List ℕ) → max_sheet < length sheet → RefusedAt 19 0 ≡ scan_of sheet
unfolding scan_of sheet_of
scan_too_long sheet long = rw (lt-leb (length sheet) max_sheet long)

module _ (sheet : List ℕ) (p : Place) (k : Scanning sheet p) where
  -- it goes on
  pub scanning_on : (q : Place) → p.at < length sheet → Stepped sheet p (Ok (Some q)) → Scanning sheet q
  scanning_on q lt s = by_left k.left.0 k.left.1 k.left.2
    where
      by_left : (n : ℕ) → length sheet ≤ n + p.at → scan_of sheet ≡ from n sheet p → Scanning sheet q
      by_left zero few e = absurd (omega arith)
      by_left (suc n) few e = record { ahead = (s.farther q refl).1; left = (n, omega (arith, (s.farther q refl).0), e ∙ sym (s.goes n)) }

  -- it ends with an answer
  pub scanning_off : (answer : Verdict (List ℕ)) → p.at < length sheet → ((n : ℕ) → answer ≡ from (suc n) sheet p) → answer ≡ scan_of sheet
  scanning_off answer lt goes = by_left k.left.0 k.left.1 k.left.2
    where
      by_left : (n : ℕ) → length sheet ≤ n + p.at → scan_of sheet ≡ from n sheet p → answer ≡ scan_of sheet
      by_left zero few e = absurd (omega arith)
      by_left (suc n) few e = goes n ∙ sym e

  -- there is no end record
  pub scanning_none : length sheet ≤ p.at → RefusedAt 17 (length sheet) ≡ scan_of sheet
  unfolding from records
  scanning_none over = by_left k.left.0 k.left.2
    where
      by_left : (n : ℕ) → scan_of sheet ≡ from n sheet p → RefusedAt 17 (length sheet) ≡ scan_of sheet
      by_left zero e = rw e
      by_left (suc n) e = rw (e, le-ltb p.at (length sheet) over)

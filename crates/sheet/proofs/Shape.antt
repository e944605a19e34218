-- An accepted sheet: its records stand one after the other, the board, the joints, the requests and the end, each where it is read.
use Prim.Native.Nat.{ℕ, zero, suc, ◌+◌, ◌*◌, ◌≤◌, ◌<◌}
use mathlib.Core.Bool.{Bool, true, false, ◌&&◌}
use mathlib.Core.Path.{◌≡◌, refl, sym, ap, ◌∙◌}
use mathlib.Core.List.{List, [], ◌∷◌}
use native.Mathlib.Omega.{arith}
use lib.ListN.{length, get_or, drop}
use lib.Dec.{leb, ltb, eqb}
use borrow.Author.Tests.{leb-true, eqb-true}
use Rattle.refusal.proofs.Tests.{fails}
use Rattle.refusal.specs.Answer.{Answer, Served, Refused, ◌unless◌}
use Rattle.refusal.proofs.Answers.{passed}
use Rattle.board.specs.Limits.{max_height}
use Rattle.board.specs.Levels.{Box}
use Rattle.records.specs.declared.kind.Kind.TheVariants.{Board as boardKind}
use Rattle.records.specs.declared.kind.Stage.{Stage}
use Rattle.records.specs.declared.kind.Stage.TheVariants.{Start, Joints, Requests}
use Rattle.records.specs.declared.record.Record.{Record}
use Rattle.records.specs.declared.record.Record.TheVariants.{Board, Joint, Question, Window, End}
use Rattle.records.specs.Kinds.{in_place, stage_after}
use Rattle.records.specs.Records.{body_of, record_at, kind_in, next_after}
use Rattle.sheet.specs.Sheet.{Verdict, Accepted, RefusedAt, offset, ◌onward◌, height_after, with_rest, records, sheet_of, max_sheet, height_in, cell_in, cells_in, joint_offset, after_joints, requests_in}
use Rattle.sheet.specs.Scan.{is_end}
use Rattle.records.proofs.Recording.{by_body}
use Rattle.sheet.proofs.Scanning.{read_as, before_rest, end_is}

-- records stand in a sheet from a place on, on a board of height h, up to its end
pub data Stand (sheet : List ℕ) : Stage → ℕ → ℕ → List Record → Type 0 where
  last : {stage : Stage} {h at : ℕ} → record_at stage h sheet at ≡ Served End → next_after at End ≡ length sheet → Stand sheet stage h at (End ∷ [])
  more : {stage : Stage} {h at : ℕ} {rs : List Record} (r : Record) → is_end r ≡ false → record_at stage h sheet at ≡ Served r → Stand sheet (stage_after (kind_in r)) (height_after h r) (next_after at r) rs → Stand sheet stage h at (r ∷ rs)

-- no verdict both accepts and refuses
pub not_accepted : {A P : Type 0} {n at : ℕ} {x : A} → RefusedAt n at ≡ Accepted x → P
not_accepted {n = n} {at = at} {x = x} e = let z : ◌≡◌ {A = ℕ} 0 1 = cc in absurd (omega arith)

-- what is accepted in the end was accepted at first
pub went_onward : {A B P : Type 0} (v : Verdict A) (f : A → Verdict B) {y : B} → (v onward f) ≡ Accepted y → ((x : A) → v ≡ Accepted x → f x ≡ Accepted y → P) → P
went_onward (Accepted x) f e go = go x refl e
went_onward (RefusedAt n at) f e go = not_accepted e

-- an answer that is accepted was served, and a test was passed
pub was_served : {A : Type 0} (at : ℕ) (a : Answer A) (x : A) → offset at a ≡ Accepted x → a ≡ Served x
was_served at (Served y) x e = let same : y ≡ x = cc in rw same
was_served at (Refused n) x e = not_accepted e

pub was_passed : (at n : ℕ) (t : Bool) (x : Bool) → offset at (n unless t) ≡ Accepted x → t ≡ true
was_passed at n true x e = refl
was_passed at n false x e = not_accepted e

-- the end, accepted, has nothing after it
end_rest : (sheet : List ℕ) (next : ℕ) (v : Verdict (List Record)) (rs : List Record) → with_rest sheet next End v ≡ Accepted rs → (next ≡ length sheet) × (End ∷ [] ≡ rs)
unfolding with_rest
end_rest sheet next v rs e =
    went_onward (offset next (17 unless eqb next (length sheet))) _ e λ t k f.
    (eqb-true next (length sheet) (was_passed next 17 (eqb next (length sheet)) t k), let same : End ∷ [] ≡ rs = cc in same)

-- any other record, accepted, is followed by records that are
more_rest : {P : Type 0} (sheet : List ℕ) (next : ℕ) (r : Record) (v : Verdict (List Record)) (rs : List Record) → is_end r ≡ false → with_rest sheet next r v ≡ Accepted rs
    → ((qs : List Record) → v ≡ Accepted qs → r ∷ qs ≡ rs → P) → P
more_rest sheet next r v rs go e then-so =
    went_onward v _ (sym (before_rest sheet next r v go) ∙ e) λ qs k f. then-so qs k (let same : r ∷ qs ≡ rs = cc in same)

-- records that are accepted stand there
pub accepted_stand : (n : ℕ) (stage : Stage) (h : ℕ) (sheet : List ℕ) (at : ℕ) (rs : List Record) → records n stage h sheet at ≡ Accepted rs → Stand sheet stage h at rs
unfolding records
accepted_stand zero stage h sheet at rs e = not_accepted e
accepted_stand (suc n) stage h sheet at rs e =
    went_onward (offset (length sheet) (17 unless ltb at (length sheet))) _ e λ _ _ f.
    went_onward (offset at (record_at stage h sheet at)) _ f λ r k g.
    by_end r (was_served at (record_at stage h sheet at) r k) (is_end r) refl (λ qs. accepted_stand n (stage_after (kind_in r)) (height_after h r) sheet (next_after at r) qs) g
  where
    by_end : (r : Record) → record_at stage h sheet at ≡ Served r → (t : Bool) → is_end r ≡ t
        → ((qs : List Record) → records n (stage_after (kind_in r)) (height_after h r) sheet (next_after at r) ≡ Accepted qs → Stand sheet (stage_after (kind_in r)) (height_after h r) (next_after at r) qs)
        → with_rest sheet (next_after at r) r (records n (stage_after (kind_in r)) (height_after h r) sheet (next_after at r)) ≡ Accepted rs → Stand sheet stage h at rs
    by_end r k true i rest g =
        let same = end_is r i in
        let end = end_rest sheet (next_after at End) (records n (stage_after (kind_in End)) (height_after h End) sheet (next_after at End)) rs (rw same at g) in
        rw (← end.1) (last (rw same at k) end.0)
    by_end r k false i rest g =
        more_rest sheet (next_after at r) r (records n (stage_after (kind_in r)) (height_after h r) sheet (next_after at r)) rs i g
        λ qs a same. rw (← same) (more r i k (rest qs a))

-- among the requests stands no joint
pub requests_no_cells : (sheet : List ℕ) {h at : ℕ} {rs : List Record} → Stand sheet Requests h at rs → cells_in rs ≡ []
unfolding cells_in cell_in kind_in height_after
requests_no_cells sheet (last e f) = refl
requests_no_cells sheet (more {h = h} {at = at} (Board k) go e rest) = fails (read_as Requests h sheet at (Board k) e).stands
requests_no_cells sheet (more {h = h} {at = at} (Joint r c) go e rest) = fails (read_as Requests h sheet at (Joint r c) e).stands
requests_no_cells sheet (more (Question k r c) go e rest) = requests_no_cells sheet rest
requests_no_cells sheet (more (Window a b c d) go e rest) = requests_no_cells sheet rest
requests_no_cells sheet (more End go e rest) = fails (sym go)

-- from the board on, joint record i stands at its offset
pub joint_stands : (sheet : List ℕ) {h at : ℕ} {rs : List Record} → Stand sheet Joints h at rs → (i : ℕ) (none : Box) → i < length (cells_in rs)
    → record_at Joints h sheet (at + (1 + 10) * i) ≡ Served (Joint (get_or (cells_in rs) i none).row (get_or (cells_in rs) i none).col)
unfolding cells_in cell_in kind_in height_after
joint_stands sheet (last e f) i none lt = absurd (omega arith)
joint_stands sheet (more {h = h} {at = at} (Board k) go e rest) i none lt = fails (read_as Joints h sheet at (Board k) e).stands
joint_stands sheet (more {h = h} {at = at} (Joint r c) go e rest) zero none lt = let here : at + (1 + 10) * 0 ≡ at = omega arith in rw here e
joint_stands sheet (more {h = h} {at = at} (Joint r c) go e rest) (suc i) none lt =
    let there : at + (1 + 10) * suc i ≡ at + 1 + 10 + (1 + 10) * i = omega arith in rw there (joint_stands sheet rest i none (omega arith))
joint_stands sheet (more (Question k r c) go e rest) i none lt = absurd (omega (arith, ap length (requests_no_cells sheet rest)))
joint_stands sheet (more (Window a b c d) go e rest) i none lt = absurd (omega (arith, ap length (requests_no_cells sheet rest)))
joint_stands sheet (more End go e rest) i none lt = fails (sym go)

-- after the board record the height stays
pub height_stays : (sheet : List ℕ) (stage : Stage) {h at : ℕ} {rs : List Record} → (in_place stage boardKind ≡ false) → Stand sheet stage h at rs → height_in h rs ≡ h
unfolding height_in kind_in height_after
height_stays sheet stage off (last e f) = refl
height_stays sheet stage off (more {h = h} {at = at} (Board k) go e rest) = fails (sym off ∙ (read_as stage h sheet at (Board k) e).stands)
height_stays sheet stage off (more (Joint r c) go e rest) = height_stays sheet Joints refl rest
height_stays sheet stage off (more (Question k r c) go e rest) = height_stays sheet Requests refl rest
height_stays sheet stage off (more (Window a b c d) go e rest) = height_stays sheet Requests refl rest
height_stays sheet stage off (more End go e rest) = fails (sym go)

-- a record that may stand among the joints, and is none, may stand among the requests
as_request : (h : ℕ) (sheet : List ℕ) (at : ℕ) (r : Record) → in_place Requests (kind_in r) ≡ true → record_at Joints h sheet at ≡ Served r → record_at Requests h sheet at ≡ Served r
as_request h sheet at r stands e = let k = read_as Joints h sheet at r e in by_body Requests h sheet at (kind_in r) k.kind stands k.long ∙ k.body

-- the requests of requests are all
requests_all : (sheet : List ℕ) {h at : ℕ} {rs : List Record} → Stand sheet Requests h at rs → requests_in rs ≡ rs
unfolding requests_in kind_in height_after
requests_all sheet (last e f) = refl
requests_all sheet (more {h = h} {at = at} (Board k) go e rest) = fails (read_as Requests h sheet at (Board k) e).stands
requests_all sheet (more {h = h} {at = at} (Joint r c) go e rest) = fails (read_as Requests h sheet at (Joint r c) e).stands
requests_all sheet (more (Question k r c) go e rest) = ap (◌∷◌ (Question k r c)) (requests_all sheet rest)
requests_all sheet (more (Window a b c d) go e rest) = ap (◌∷◌ (Window a b c d)) (requests_all sheet rest)
requests_all sheet (more End go e rest) = fails (sym go)

-- the requests stand after the joints
pub requests_stand : (sheet : List ℕ) {h at : ℕ} {rs : List Record} → Stand sheet Joints h at rs → Stand sheet Requests h (at + (1 + 10) * length (cells_in rs)) (requests_in rs)
unfolding requests_in cells_in cell_in kind_in height_after
requests_stand sheet (last {h = h} {at = at} e f) = let here : at + (1 + 10) * 0 ≡ at = omega arith in rw here (last (as_request h sheet at End refl e) f)
requests_stand sheet (more {h = h} {at = at} (Board k) go e rest) = fails (read_as Joints h sheet at (Board k) e).stands
requests_stand sheet (more {h = h} {at = at} {rs = rs} (Joint r c) go e rest) =
    let there : at + (1 + 10) * suc (length (cells_in rs)) ≡ at + 1 + 10 + (1 + 10) * length (cells_in rs) = omega arith in rw there (requests_stand sheet rest)
requests_stand sheet (more {h = h} {at = at} {rs = rs} (Question k r c) go e rest) =
    let here : at + (1 + 10) * length (cells_in rs) ≡ at = omega (arith, ap length (requests_no_cells sheet rest)) in
    rw (here, requests_all sheet rest) (more (Question k r c) go (as_request h sheet at (Question k r c) refl e) rest)
requests_stand sheet (more {h = h} {at = at} {rs = rs} (Window a b c d) go e rest) =
    let here : at + (1 + 10) * length (cells_in rs) ≡ at = omega (arith, ap length (requests_no_cells sheet rest)) in
    rw (here, requests_all sheet rest) (more (Window a b c d) go (as_request h sheet at (Window a b c d) refl e) rest)
requests_stand sheet (more End go e rest) = fails (sym go)

-- where records stand there is a byte
pub stand_within : (sheet : List ℕ) (stage : Stage) {h at : ℕ} {rs : List Record} → Stand sheet stage h at rs → at < length sheet
unfolding kind_in
stand_within sheet stage (last e f) = omega arith
stand_within sheet stage (more {h = h} {at = at} r go e rest) = omega (arith, (read_as stage h sheet at r e).long)

-- what an accepted sheet is
pub record Shaped (sheet : List ℕ) (rs : List Record) : Type 0 where
  pub short : length sheet ≤ max_sheet
  pub high : 1 ≤ height_in 0 rs
  pub low : height_in 0 rs ≤ max_height
  pub long : after_joints rs < length sheet
  pub joint : (i : ℕ) (none : Box) → i < length (cells_in rs) → record_at Joints (height_in 0 rs) sheet (joint_offset i) ≡ Served (Joint (get_or (cells_in rs) i none).row (get_or (cells_in rs) i none).col)
  pub requests : Stand sheet Requests (height_in 0 rs) (after_joints rs) (requests_in rs)

-- the first record is the board
shape : (sheet : List ℕ) {rs : List Record} → length sheet ≤ max_sheet → Stand sheet Start 0 0 rs → Shaped sheet rs
unfolding height_in cells_in cell_in requests_in kind_in height_after body_of
shape sheet short (last e f) = fails (read_as Start 0 sheet 0 End e).stands
shape sheet short (more {rs = rs} (Board k) go e rest) =
    let x = get_or (drop 1 sheet) 0 0 in
    let read = read_as Start 0 sheet 0 (Board k) e in
    let t = passed 1 (leb 1 x && leb x max_height) (Served (Board x)) read.body in
    let same : k ≡ x = (let g = t.1 in cc) in
    let both = two (leb 1 x) (leb x max_height) t.0 in
    let stays = height_stays sheet Joints refl rest in
    record {
      short = short;
      high = rw (stays, same) (leb-true 1 x both.0);
      low = rw (stays, same) (leb-true x max_height both.1);
      long = stand_within sheet Requests (requests_stand sheet rest);
      joint = rw stays (joint_stands sheet rest);
      requests = rw stays (requests_stand sheet rest);
    }
  where
    two : (s t : Bool) → s && t ≡ true → (s ≡ true) × (t ≡ true)
    two true t e = (refl, e)
    two false t e = fails e
shape sheet short (more (Joint r c) go e rest) = fails (read_as Start 0 sheet 0 (Joint r c) e).stands
shape sheet short (more (Question k r c) go e rest) = fails (read_as Start 0 sheet 0 (Question k r c) e).stands
shape sheet short (more (Window a b c d) go e rest) = fails (read_as Start 0 sheet 0 (Window a b c d) e).stands
shape sheet short (more End go e rest) = fails (sym go)

pub sheet_shape : (sheet : List ℕ) (rs : List Record) → sheet_of sheet ≡ Accepted rs → Shaped sheet rs
unfolding sheet_of
sheet_shape sheet rs e =
    went_onward (offset 0 (19 unless leb (length sheet) max_sheet)) _ e λ t k f.
    shape sheet (leb-true (length sheet) max_sheet (was_passed 0 19 (leb (length sheet) max_sheet) t k)) (accepted_stand (length sheet) Start 0 sheet 0 rs f)

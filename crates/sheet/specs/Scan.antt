-- For the functions inside: what the scan of a sheet answers, the height and the number of joint records; and how it goes from place to place.
use Rattle.std.specs.Prelude.{ℕ, suc, ◌+◌, ◌≤◌, ◌<◌, Bool, true, false, ◌≡◌, List, [], ◌∷◌, length, Option, Some, None, Result, Ok, Err}
use Rattle.refusal.specs.Numbers.{number_of}
use Rattle.board.specs.Limits.{max_height}
use Rattle.records.specs.declared.kind.Stage.TheVariants.{Start}
use Rattle.records.specs.declared.record.Record.{Record}
use Rattle.records.specs.declared.record.Record.TheVariants.{Board, Joint, Question, Window, End}
use Rattle.sheet.specs.declared.scan.Scanned.{Scanned}
use Rattle.sheet.specs.declared.RefusedAt.{RefusedAt as Turned}
use Rattle.sheet.specs.declared.scan.Place.{Place}
use Rattle.records.specs.Kinds.{stage_after}
use Rattle.records.specs.Records.{kind_in}
use Rattle.sheet.specs.Sheet.{Verdict, Accepted, RefusedAt, verdict_by, ◌onward◌, height_after, records, sheet_of, height_in, cell_in, cells_in}

-- the paper's number, offset and values of a scan
abbrev pub scanned_of : Result Scanned Turned → Verdict (List ℕ)
scanned_of = verdict_by (λ (scanned : Scanned). scanned.height ∷ scanned.joints ∷ [])

-- the height and the number of joint records of a sheet
unfoldable pub scan_of : List ℕ → Verdict (List ℕ)
scan_of sheet = sheet_of sheet onward λ rs. Accepted (height_in 0 rs ∷ length (cells_in rs) ∷ [])

abbrev pub is_end : Record → Bool
is_end (Board h) = false
is_end (Joint r c) = false
is_end (Question k r c) = false
is_end (Window a b c d) = false
is_end End = true

-- the start of a sheet
abbrev pub start_place : Place
start_place = record { at = 0; stage = Start; height = 0; joints = 0 }

-- the place after a record
unfoldable pub place_after : Place → Record → ℕ → Place
place_after p r next = record { at = next; stage = stage_after (kind_in r); height = height_after p.height r; joints = p.joints + length (cell_in r) }

-- what the records from a place on give, n at the most, with what those before it gave
unfoldable pub from : ℕ → List ℕ → Place → Verdict (List ℕ)
from n sheet p = records n p.stage p.height sheet p.at onward λ rs. Accepted (height_in p.height rs ∷ (p.joints + length (cells_in rs)) ∷ [])

-- the same after one record: from the place after it, or, after the end, by what the records before it gave
abbrev pub after_step : ℕ → List ℕ → Place → Result (Option Place) Turned → Verdict (List ℕ)
after_step n sheet p (Ok (Some q)) = from n sheet q
after_step n sheet p (Ok None) = Accepted (p.height ∷ p.joints ∷ [])
after_step n sheet p (Err e) = RefusedAt (number_of e.refusal) e.offset

-- a place that can be gone on from
pub record Ahead (sheet : List ℕ) (p : Place) : Type 0 where
  pub within : p.at ≤ length sheet
  pub low : p.height ≤ max_height
  pub few : p.joints ≤ p.at

-- one step: what is left to do gives what there was to do, and the next place is farther on
pub record Stepped (sheet : List ℕ) (p : Place) (step : Result (Option Place) Turned) : Type 0 where
  pub goes : (n : ℕ) → after_step n sheet p step ≡ from (suc n) sheet p
  pub farther : (q : Place) → step ≡ Ok (Some q) → (p.at < q.at) × Ahead sheet q

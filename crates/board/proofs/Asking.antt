-- A board that is asked: what the check and the directory's test give together.
use Prim.Native.Nat.{ℕ, ◌*◌, ◌^◌, ◌<◌}
use mathlib.Core.Path.{◌≡◌, sym}
use mathlib.Core.List.{List, [], ◌∷◌}
use native.Mathlib.Omega.{arith}
use lib.ListN.{length}
use lib.Dec.{eqb}
use borrow.Author.Tests.{eqb-true}
use Rattle.refusal.specs.Answer.{Answer, Served, Refused, ◌unless◌, ◌then◌}
use Rattle.refusal.proofs.Answers.{passed, went_on, stays, goes_on}
use Rattle.bitmap.specs.Bits.{ones_before}
use Rattle.bitmap.specs.Directory.{blocks, directory_of, alike}
use Rattle.bitmap.proofs.Directory.{alike_true}
use Rattle.board.specs.Limits.{max_height}
use Rattle.board.specs.Check.{check_of}
use Rattle.board.specs.Ready.{Ready, asked_of, made_of}
use Rattle.board.proofs.Valid.{Sound, served_valid}
use Rattle.board.proofs.Bounds.{ones_at_most}

-- the ones of a board that is served fit the directory
pub served_few : (h : ℕ) (bytes : List ℕ) (j g : ℕ) → check_of h bytes ≡ Served (j ∷ g ∷ []) → ones_before bytes (8 * length bytes) < 2 ^ 16
served_few h bytes j g e =
    let s = served_valid h bytes j g e in
    omega (arith, ones_at_most h bytes (8 * length bytes) s.valid s.low s.few (omega arith))

-- a directory is made only where there is just the room for it, and its ones fit
pub made_served : (h : ℕ) (bytes : List ℕ) (n j g : ℕ) → made_of h bytes n ≡ Served (j ∷ g ∷ []) → (n ≡ blocks (length bytes)) × (ones_before bytes (8 * length bytes) < 2 ^ 16)
unfolding made_of
made_served h bytes n j g e =
    let t = passed 6 (eqb n (blocks (length bytes))) (check_of h bytes) (went_on (check_of h bytes) _ e).2 in
    (eqb-true n (blocks (length bytes)) t.0, served_few h bytes j g t.1)

-- what is asked and served, the check serves
pub asked_sound : (h : ℕ) (bytes d : List ℕ) (j g : ℕ) → asked_of h bytes d ≡ Served (j ∷ g ∷ []) → Sound h bytes j g
unfolding asked_of
asked_sound h bytes d j g e =
    let first = went_on (check_of h bytes) _ e in
    served_valid h bytes j g (passed 6 (alike d (directory_of bytes)) (check_of h bytes) first.2).1

-- and it may be asked
pub asked_ready : (h : ℕ) (bytes d : List ℕ) (j g : ℕ) → asked_of h bytes d ≡ Served (j ∷ g ∷ []) → Ready h bytes d
unfolding asked_of
asked_ready h bytes d j g e =
    let first = went_on (check_of h bytes) _ e in
    let s = asked_sound h bytes d j g e in
    record { valid = s.valid; low = s.low; few = s.few; ranked = alike_true d (directory_of bytes) (passed 6 (alike d (directory_of bytes)) (check_of h bytes) first.2).0 }

-- a question is refused as it was asked, whatever it answers in the end
pub asked_refused : {A : Type 0} (h : ℕ) (bytes d : List ℕ) (rest : Answer A) {k : ℕ} → asked_of h bytes d ≡ Refused k
    → Refused k ≡ (check_of h bytes then 6 unless alike d (directory_of bytes) then rest)
unfolding asked_of
asked_refused h bytes d rest e = sym (stays (check_of h bytes) 6 (alike d (directory_of bytes)) rest e)

-- and else it goes by what it asks itself
pub asked_served : {A : Type 0} (h : ℕ) (bytes d : List ℕ) (rest : Answer A) {x : List ℕ} → asked_of h bytes d ≡ Served x
    → (check_of h bytes then 6 unless alike d (directory_of bytes) then rest) ≡ rest
unfolding asked_of
asked_served h bytes d rest e = goes_on (check_of h bytes) 6 (alike d (directory_of bytes)) rest e

-- a height that is served fits a shift
pub ready_height : (h : ℕ) (bytes d : List ℕ) → Ready h bytes d → h < 32
unfolding max_height
ready_height h bytes d r = omega (arith, r.low)

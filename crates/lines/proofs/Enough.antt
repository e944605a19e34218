-- The program's room is enough: in a report no question is refused by 9 or 10, and no window by 9.
use Prim.Native.Nat.{ℕ, ◌≤◌}
use mathlib.Core.Bool.{Bool, true, false, ◌&&◌}
use mathlib.Core.Path.{◌≡◌, refl}
use mathlib.Core.List.{List, [], ◌∷◌}
use native.Mathlib.Omega.{arith}
use lib.ListN.{length}
use lib.Dec.{leb}
use borrow.Author.Tests.{le-leb}
use Rattle.refusal.proofs.Tests.{both}
use Rattle.refusal.specs.Answer.{Answer, Served, Refused, ◌unless◌, ◌then◌}
use Rattle.bitmap.specs.Directory.{directory_of, alike}
use Rattle.board.specs.Limits.{max_joints}
use Rattle.board.specs.Levels.{joints}
use Rattle.board.specs.Check.{check_of}
use Rattle.window.specs.Window.{Window, inside, found, ends_fit, roomed, window_of}
use Rattle.board.proofs.Valid.{served_valid}
use Rattle.window.proofs.Listing.{keep_le}
use Rattle.search.specs.Question.{answer_keys, trail}
use Rattle.keys.specs.declared.distance.Place.{Place}
use Rattle.keys.specs.Places.{place_of, in_range}
use Rattle.nearest.specs.Promise.{max_wanted, work_for, nearest_of}
use Rattle.lines.specs.Limits.{max_answers, max_trail}
use Rattle.lines.specs.Whole.{report_desk}

-- a question's tests in their order: where each K that is asked has its places, and the work lists theirs, the answer is neither 9 nor 10
question_tests : (d a b c e f : Bool) (x : List ℕ) (n : ℕ) → (b ≡ true → c ≡ true) → e ≡ true
    → ◌≡◌ {A = Answer (List ℕ)} (6 unless d then (7 unless a then 8 unless b then 9 unless c then 10 unless e) then 11 unless f then Served x) (Refused n) → (n ≡ 9 → ⊥) × (n ≡ 10 → ⊥)
question_tests false a b c e f x n k w q = let z : n ≡ 6 = cc in (λ y. omega arith, λ y. omega arith)
question_tests true false b c e f x n k w q = let z : n ≡ 7 = cc in (λ y. omega arith, λ y. omega arith)
question_tests true true false c e f x n k w q = let z : n ≡ 8 = cc in (λ y. omega arith, λ y. omega arith)
question_tests true true true false e f x n k w q = let z : ◌≡◌ {A = ℕ} 0 1 = cc (k refl) in absurd (omega arith)
question_tests true true true true false f x n k w q = let z : ◌≡◌ {A = ℕ} 0 1 = cc in absurd (omega arith)
question_tests true true true true true false x n k w q = let z : n ≡ 11 = cc in (λ y. omega arith, λ y. omega arith)
question_tests true true true true true true x n k w q = let z : ◌≡◌ {A = ℕ} 0 1 = cc in absurd (omega arith)

-- no question on a board that the check serves is refused by 9 or 10
pub question_room : (h : ℕ) (bytes : List ℕ) (j g : ℕ) (p : Place) (k n : ℕ) → check_of h bytes ≡ Served (j ∷ g ∷ []) → nearest_of h bytes (directory_of bytes) p k (report_desk bytes).rooms ≡ Refused n → (n ≡ 9 → ⊥) × (n ≡ 10 → ⊥)
unfolding nearest_of max_joints
question_room h bytes j g p k n served refused =
    let few = (served_valid h bytes j g served).few in
    let room : work_for h bytes ≤ max_joints = omega arith in
    question_tests (alike (directory_of bytes) (directory_of bytes)) (in_range p) (leb 1 k && leb k max_wanted) (leb k max_answers) (leb (work_for h bytes) max_joints && leb (work_for h bytes) max_joints)
    (leb (length (trail (place_of p) h bytes k)) max_trail) (length (answer_keys (place_of p) h bytes k) ∷ length (trail (place_of p) h bytes k) ∷ []) n (λ t. (both (leb 1 k) (leb k max_wanted) t).1)
    (rw (le-leb (work_for h bytes) max_joints room))
    (rw served at refused)

-- a window's tests in their order: where its cells have their places, the answer is not 9
window_tests : (d a b : Bool) (x n : ℕ) → b ≡ true → ◌≡◌ {A = Answer ℕ} (6 unless d then 12 unless a then 9 unless b then Served x) (Refused n) → n ≡ 9 → ⊥
window_tests false a b x n w q y = let z : n ≡ 6 = cc in omega arith
window_tests true false b x n w q y = let z : n ≡ 12 = cc in omega arith
window_tests true true false x n w q y = let z : ◌≡◌ {A = ℕ} 0 1 = cc in omega arith
window_tests true true true x n w q y = let z : ◌≡◌ {A = ℕ} 0 1 = cc in omega arith

-- no window on it is refused by 9
pub window_room_enough : (h : ℕ) (bytes : List ℕ) (j g : ℕ) (w : Window) (n : ℕ) → check_of h bytes ≡ Served (j ∷ g ∷ []) → window_of h bytes (directory_of bytes) w max_joints max_joints ≡ Refused n → n ≡ 9 → ⊥
unfolding window_of roomed found
window_room_enough h bytes j g w n served refused =
    let few = (served_valid h bytes j g served).few in
    let room : length (found w h bytes) ≤ max_joints = omega (arith, keep_le (inside w) (joints h bytes)) in
    window_tests (alike (directory_of bytes) (directory_of bytes)) (ends_fit h w.top w.bottom && ends_fit h w.left w.right)
    (leb (length (found w h bytes)) max_joints && leb (length (found w h bytes)) max_joints) (length (found w h bytes)) n
    (rw (le-leb (length (found w h bytes)) max_joints room))
    (rw served at refused)

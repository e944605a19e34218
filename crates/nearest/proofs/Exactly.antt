-- A question is refused by each of its numbers exactly when the table says, in the order of document 01.
use Prim.Native.Nat.{ℕ, ◌≤◌, ◌<◌}
use mathlib.Core.Bool.{Bool, true, false, ◌&&◌}
use mathlib.Core.Logic.{◌↔◌, ◌⊎◌, inl, inr, ⊎_elim}
use mathlib.Core.Path.{◌≡◌, refl, sym, ap}
use mathlib.Core.List.{List, [], ◌∷◌, map}
use native.Mathlib.Omega.{arith}
use lib.ListN.{length}
use lib.Dec.{leb}
use lib.IntN.{nat_abs}
use borrow.Author.Tests.{leb-true, leb-false, le-leb, lt-leb, ne_eqb}
use Rattle.refusal.proofs.Tests.{both}
use Rattle.refusal.specs.Answer.{Answer, Served, Refused, ◌unless◌, ◌then◌}
use Rattle.refusal.proofs.Answers.{not_both, unless_exactly}
use Rattle.order.proofs.Cases.{test_cases, leb_cases}
use Rattle.bitmap.specs.Directory.{directory_of, alike}
use Rattle.board.specs.Limits.{max_place}
use Rattle.board.specs.Check.{check_of}
use Rattle.board.specs.Table.{WrongLength, WrongEntry, Serves}
use Rattle.board.proofs.Tests.{no_path, not_passed}
use Rattle.refusal.proofs.Refused.{past_test, by_test}
use Rattle.board.proofs.Exactly.{check_numbers}
use Rattle.board.proofs.ExactlyAsked.{those, six, after_six}
use Rattle.search.specs.Question.{answer_keys, trail}
use Rattle.search.proofs.PlainJoints.{answer_in}
use Rattle.search.proofs.Plain.{answer_plain, trail_plain, trail_exactly}
use Rattle.keys.specs.declared.distance.Place.{Place}
use Rattle.keys.specs.Places.{place_of, in_range, Named}
use Rattle.nearest.specs.Promise.{max_wanted, Rooms, work_for, nearest_of}
use Rattle.nearest.specs.Table.{CountServed, AnswersShort, WorkShort, TrailShort}
use Rattle.nearest.proofs.Asks.{board_sound}

-- ---- tests in a row, whose numbers rise

-- a test that is failed exactly where P is so is passed exactly where P is not
passed_where : (t : Bool) {P : Type 0} → (t ≡ false) ↔ P → (t ≡ true) ↔ (P → ⊥)
passed_where true e = ((λ f p. no_path (e.1 p)), λ n. refl)
passed_where false e = ((λ f. absurd (no_path (sym f))), λ n. absurd (n (e.0 refl)))

module _ {A : Type 0} (m : ℕ) (t : Bool) (rest : Answer A) where
  -- no number below the first test's is given
  from_first : ((n : ℕ) → rest ≡ Refused n → m < n) → (n : ℕ) → (m unless t then rest) ≡ Refused n → m ≤ n
  from_first above n e = ⊎_elim (λ w. omega (arith, w.1)) (λ w. omega (arith, above n w.1)) ((unless_exactly m t rest n).0 e)

  -- and none above the last's
  up_to_last : (n : ℕ) → m ≤ 11 → (rest ≡ Refused n → n ≤ 11) → (m unless t then rest) ≡ Refused n → n ≤ 11
  up_to_last n l most e = ⊎_elim (λ w. omega (arith, w.1)) (λ w. most w.1) ((unless_exactly m t rest n).0 e)

  -- the first test's own number: it is not passed
  by_first : {P : Type 0} → (t ≡ false) ↔ P → ((n : ℕ) → rest ≡ Refused n → m < n) → ((m unless t then rest) ≡ Refused m) ↔ P
  by_first says above = ((λ e. says.0 (by_test m t rest (λ f. omega (arith, above m f)) e)), λ s. rw (says.1 s))

  -- a number above it: it is passed, and the rest gives the number
  after_first : {P : Type 0} → (t ≡ true) ↔ P → (n : ℕ) → m < n → ((m unless t then rest) ≡ Refused n) ↔ (P × (rest ≡ Refused n))
  after_first says n l =
      ((λ e. let q = past_test m n t rest (ne_eqb m n (omega arith)) e in (says.0 q.0, q.1)), λ s. rw (says.1 s.0) s.1)

-- four tests and then the rest, or one after the other
in_a_row : {A : Type 0} (a b c d : Bool) (rest : Answer A)
    → ((7 unless a then 8 unless b then 9 unless c then 10 unless d) then rest) ≡ (7 unless a then 8 unless b then 9 unless c then 10 unless d then rest)
in_a_row true true true true rest = refl
in_a_row true true true false rest = refl
in_a_row true true false d rest = refl
in_a_row true false c d rest = refl
in_a_row false b c d rest = refl

-- ---- the question

module _ (h : ℕ) (bytes d : List ℕ) (p : Place) (k : ℕ) (r : Rooms) where
  -- its tests in the table's words
  place_said : (in_range p ≡ true) ↔ Named p
  place_said = (
    λ e. let t = both (leb (nat_abs p.row) max_place) (leb (nat_abs p.column) max_place) e in record { row = leb-true _ _ t.0; column = leb-true _ _ t.1 },
    λ n. rw (le-leb (nat_abs p.row) max_place n.row, le-leb (nat_abs p.column) max_place n.column),
  )

  abbrev counts : Bool
  counts = leb 1 k && leb k max_wanted

  count_said : (counts ≡ true) ↔ CountServed k
  count_said = ((λ e. let t = both (leb 1 k) (leb k max_wanted) e in (leb-true _ _ t.0, leb-true _ _ t.1)), λ s. rw (le-leb 1 k s.0, le-leb k max_wanted s.1))

  answers_said : (leb k r.answers ≡ false) ↔ AnswersShort k r
  answers_said = (leb-false k r.answers, lt-leb k r.answers)

  abbrev works : Bool
  works = leb (work_for h bytes) r.keys && leb (work_for h bytes) r.corners

  work_said : (works ≡ false) ↔ WorkShort h bytes r
  work_said = (
    λ e. test_cases (leb (work_for h bytes) r.keys) (λ t. inr (leb-false _ _ (rw t at e))) (λ t. inl (leb-false _ _ t)),
    ⊎_elim
        (λ l. rw (lt-leb (work_for h bytes) r.keys l))
        (λ l. test_cases (leb (work_for h bytes) r.keys) (λ t. rw (t, lt-leb (work_for h bytes) r.corners l)) (λ t. rw t)),
  )

  abbrev trail_fits : Bool
  trail_fits = leb (length (trail (place_of p) h bytes k)) r.trail

  trail_said : Serves (check_of h bytes) → CountServed k → (trail_fits ≡ false) ↔ TrailShort h bytes p k r
  trail_said board some =
      let sound = board_sound h bytes board.1 in (
        λ e. (map answer_in (answer_keys (place_of p) h bytes k), answer_plain (place_of p) h bytes sound k, trail (place_of p) h bytes k, trail_plain (place_of p) h bytes sound k some.0, leb-false _ _ e),
        λ s. lt-leb _ _ (rw ((trail_exactly (place_of p) h bytes sound k some.0 s.0 s.2 s.1).0 s.3) at s.4),
      )

  -- what is answered from each test on
  abbrev from_11 : Answer (List ℕ)
  from_11 = 11 unless trail_fits then Served (length (answer_keys (place_of p) h bytes k) ∷ length (trail (place_of p) h bytes k) ∷ [])

  abbrev from_10 : Answer (List ℕ)
  from_10 = 10 unless works then from_11

  abbrev from_9 : Answer (List ℕ)
  from_9 = 9 unless leb k r.answers then from_10

  abbrev from_8 : Answer (List ℕ)
  from_8 = 8 unless counts then from_9

  abbrev from_7 : Answer (List ℕ)
  from_7 = 7 unless in_range p then from_8

  -- the numbers rise
  above_10 : (n : ℕ) → from_11 ≡ Refused n → 10 < n
  above_10 n e = omega (arith, from_first 11 trail_fits _ (λ m f. absurd (not_both (sym f))) n e)

  above_9 : (n : ℕ) → from_10 ≡ Refused n → 9 < n
  above_9 n e = omega (arith, from_first 10 works from_11 above_10 n e)

  above_8 : (n : ℕ) → from_9 ≡ Refused n → 8 < n
  above_8 n e = omega (arith, from_first 9 (leb k r.answers) from_10 above_9 n e)

  above_7 : (n : ℕ) → from_8 ≡ Refused n → 7 < n
  above_7 n e = omega (arith, from_first 8 counts from_9 above_8 n e)

  above_6 : (n : ℕ) → from_7 ≡ Refused n → 6 < n
  above_6 n e = omega (arith, from_first 7 (in_range p) from_8 above_7 n e)

  -- the board's tests, and then these
  goes : nearest_of h bytes d p k r ≡ (check_of h bytes then 6 unless alike d (directory_of bytes) then from_7)
  unfolding nearest_of
  goes = ap (λ (a : Answer (List ℕ)). check_of h bytes then 6 unless alike d (directory_of bytes) then a) (in_a_row (in_range p) counts (leb k r.answers) works from_11)

  -- 1 to 5: exactly when the check gives them
  pub nearest_those : (n : ℕ) → n ≤ 5 → (nearest_of h bytes d p k r ≡ Refused n) ↔ (check_of h bytes ≡ Refused n)
  nearest_those n l = rw goes (those h bytes d from_7 n l (λ e. omega (arith, above_6 n e)))

  -- 6: a directory of wrong length, or a wrong entry
  pub nearest_6 : (nearest_of h bytes d p k r ≡ Refused 6) ↔ (Serves (check_of h bytes) × (WrongLength (length d) bytes ⊎ WrongEntry d bytes))
  nearest_6 = rw goes (six h bytes d from_7 (λ e. omega (arith, above_6 6 e)))

  -- past the board and the directory, past the place, past K, past the answer list, past the work lists
  after_6 : (n : ℕ) → 6 < n → (nearest_of h bytes d p k r ≡ Refused n) ↔ (Serves (check_of h bytes) × (d ≡ directory_of bytes) × (from_7 ≡ Refused n))
  after_6 n l = rw goes (after_six h bytes d from_7 n l)

  after_7 : (n : ℕ) → 7 < n → (nearest_of h bytes d p k r ≡ Refused n) ↔ (Serves (check_of h bytes) × (d ≡ directory_of bytes) × Named p × (from_8 ≡ Refused n))
  after_7 n l =
      let s = after_6 n (omega arith) in
      let t = after_first 7 (in_range p) from_8 place_said n l in
      ((λ e. let a = s.0 e in let b = t.0 a.2 in (a.0, a.1, b.0, b.1)), λ a. s.1 (a.0, a.1, t.1 (a.2, a.3)))

  after_8 : (n : ℕ) → 8 < n → (nearest_of h bytes d p k r ≡ Refused n) ↔ (Serves (check_of h bytes) × (d ≡ directory_of bytes) × Named p × CountServed k × (from_9 ≡ Refused n))
  after_8 n l =
      let s = after_7 n (omega arith) in
      let t = after_first 8 counts from_9 count_said n l in
      ((λ e. let a = s.0 e in let b = t.0 a.3 in (a.0, a.1, a.2, b.0, b.1)), λ a. s.1 (a.0, a.1, a.2, t.1 (a.3, a.4)))

  after_9 : (n : ℕ) → 9 < n → (nearest_of h bytes d p k r ≡ Refused n)
      ↔ (Serves (check_of h bytes) × (d ≡ directory_of bytes) × Named p × CountServed k × (AnswersShort k r → ⊥) × (from_10 ≡ Refused n))
  after_9 n l =
      let s = after_8 n (omega arith) in
      let t = after_first 9 (leb k r.answers) from_10 (passed_where (leb k r.answers) answers_said) n l in
      ((λ e. let a = s.0 e in let b = t.0 a.4 in (a.0, a.1, a.2, a.3, b.0, b.1)), λ a. s.1 (a.0, a.1, a.2, a.3, t.1 (a.4, a.5)))

  -- 7: the place is out of range
  pub nearest_7 : (nearest_of h bytes d p k r ≡ Refused 7) ↔ (Serves (check_of h bytes) × (d ≡ directory_of bytes) × (Named p → ⊥))
  nearest_7 =
      let s = after_6 7 (omega arith) in
      let t = by_first 7 (in_range p) from_8 (not_passed (in_range p) place_said) above_7 in
      ((λ e. let a = s.0 e in (a.0, a.1, t.0 a.2)), λ a. s.1 (a.0, a.1, t.1 a.2))

  -- 8: K is not 1 to 255
  pub nearest_8 : (nearest_of h bytes d p k r ≡ Refused 8) ↔ (Serves (check_of h bytes) × (d ≡ directory_of bytes) × Named p × (CountServed k → ⊥))
  nearest_8 =
      let s = after_7 8 (omega arith) in
      let t = by_first 8 counts from_9 (not_passed counts count_said) above_8 in
      ((λ e. let a = s.0 e in (a.0, a.1, a.2, t.0 a.3)), λ a. s.1 (a.0, a.1, a.2, t.1 a.3))

  -- 9: the answer list is shorter than K
  pub nearest_9 : (nearest_of h bytes d p k r ≡ Refused 9) ↔ (Serves (check_of h bytes) × (d ≡ directory_of bytes) × Named p × CountServed k × AnswersShort k r)
  nearest_9 =
      let s = after_8 9 (omega arith) in
      let t = by_first 9 (leb k r.answers) from_10 answers_said above_9 in
      ((λ e. let a = s.0 e in (a.0, a.1, a.2, a.3, t.0 a.4)), λ a. s.1 (a.0, a.1, a.2, a.3, t.1 a.4))

  -- 10: a work list is shorter than the joints, at least 1
  pub nearest_10 : (nearest_of h bytes d p k r ≡ Refused 10)
      ↔ (Serves (check_of h bytes) × (d ≡ directory_of bytes) × Named p × CountServed k × (AnswersShort k r → ⊥) × WorkShort h bytes r)
  nearest_10 =
      let s = after_9 10 (omega arith) in
      let t = by_first 10 works from_11 work_said above_10 in
      ((λ e. let a = s.0 e in (a.0, a.1, a.2, a.3, a.4, t.0 a.5)), λ a. s.1 (a.0, a.1, a.2, a.3, a.4, t.1 a.5))

  -- 11: the trail list is shorter than the boxes to be opened
  pub nearest_11 : (nearest_of h bytes d p k r ≡ Refused 11)
      ↔ (Serves (check_of h bytes) × (d ≡ directory_of bytes) × Named p × CountServed k × (AnswersShort k r → ⊥) × (WorkShort h bytes r → ⊥) × TrailShort h bytes p k r)
  nearest_11 =
      let s = after_9 11 (omega arith) in
      let t = after_first 10 works from_11 (passed_where works work_said) 11 (omega arith) in (
        λ e. let a = s.0 e in let b = t.0 a.5 in (a.0, a.1, a.2, a.3, a.4, b.0, (last a.0 a.3).0 b.1),
        λ a. s.1 (a.0, a.1, a.2, a.3, a.4, t.1 (a.5, (last a.0 a.3).1 a.6)),
      )
    where
      last : Serves (check_of h bytes) → CountServed k → (from_11 ≡ Refused 11) ↔ TrailShort h bytes p k r
      last board some = by_first 11 trail_fits _ (trail_said board some) (λ n f. absurd (not_both (sym f)))

  -- it gives no other number
  pub nearest_numbers : (n : ℕ) → nearest_of h bytes d p k r ≡ Refused n → (1 ≤ n) × (n ≤ 11)
  nearest_numbers n e =
      leb_cases n 5
      (λ l t. let q = check_numbers h bytes n ((nearest_those n l).0 e) in (q.0, omega arith))
      (λ l t. leb_cases n 6 (λ m u. (omega arith, omega arith)) (λ m u. (omega arith, most ((after_6 n m).0 e).2)))
    where
      most : from_7 ≡ Refused n → n ≤ 11
      most =
          up_to_last 7 (in_range p) from_8 n (omega arith)
          (up_to_last 8 counts from_9 n (omega arith)
          (up_to_last 9 (leb k r.answers) from_10 n (omega arith)
          (up_to_last 10 works from_11 n (omega arith)
          (up_to_last 11 trail_fits _ n (omega arith) (λ f. absurd (not_both (sym f)))))))

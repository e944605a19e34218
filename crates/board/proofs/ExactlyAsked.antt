-- The directory maker and membership give each of their numbers exactly when the table says, in the order of document 01.
use Prim.Native.Nat.{ℕ, suc, ◌≤◌, ◌<◌}
use mathlib.Core.Bool.{Bool, false}
use mathlib.Core.Logic.{◌↔◌, ◌⊎◌, inl, inr}
use mathlib.Core.Path.{◌≡◌, refl, sym, ap, ◌∙◌}
use mathlib.Core.List.{List, [], ◌∷◌}
use native.Mathlib.Omega.{arith}
use lib.ListN.{length, get_or}
use lib.Dec.{eqb}
use borrow.Author.Tests.{eqb-false, ne_eqb}
use Rattle.refusal.specs.Answer.{Answer, Served, Refused, ◌unless◌, ◌then◌}
use Rattle.refusal.proofs.Answers.{not_both}
use Rattle.order.proofs.Cases.{same?}
use Rattle.bitmap.specs.Directory.{blocks, directory_of, alike}
use Rattle.bitmap.proofs.Directory.{length_directory, alike_same, alike_true, alike_false}
use Rattle.board.specs.Check.{check_of}
use Rattle.board.specs.Ready.{made_of}
use Rattle.board.specs.Member.{on_board, stored, member_of}
use Rattle.board.specs.Table.{WrongLength, WrongEntry, CellOn, Serves}
use Rattle.board.proofs.Tests.{no_path, not_passed, cell_test}
use Rattle.refusal.proofs.Refused.{past_test, by_test, past_first, by_first}
use Rattle.board.proofs.Exactly.{check_numbers}

-- ---- the tests in the table's words

-- two lists of one length that are not equal differ in an entry
differ_at : (xs ys : List ℕ) → length xs ≡ length ys → (xs ≡ ys → ⊥) → (k : ℕ) × (k < length ys) × (get_or xs k 0 ≡ get_or ys k 0 → ⊥)
differ_at [] [] l n = absurd (n refl)
differ_at [] (y ∷ ys) l n = absurd (omega arith)
differ_at (x ∷ xs) [] l n = absurd (omega arith)
differ_at (x ∷ xs) (y ∷ ys) l n =
    same? x y
    (λ e. let rest = differ_at xs ys (omega arith) (λ f. n (rw (e, f))) in (suc rest.0, omega (arith, rest.1), rest.2))
    (λ d. (0, omega arith, d))

-- a directory that is not the board's has a wrong length or a wrong entry
wrong_directory : (bytes d : List ℕ) → alike d (directory_of bytes) ≡ false → WrongLength (length d) bytes ⊎ WrongEntry d bytes
wrong_directory bytes d f =
    same? (length d) (blocks (length bytes))
    (λ same. let at = differ_at d (directory_of bytes) (rw length_directory same) (λ e. no_path (sym (rw e (alike_same (directory_of bytes))) ∙ f)) in
    inr (at.0, rw (← length_directory bytes) at.1, at.2))
    inl

-- and back
directory_wrong : (bytes d : List ℕ) → WrongLength (length d) bytes ⊎ WrongEntry d bytes → alike d (directory_of bytes) ≡ false
directory_wrong bytes d (inl n) = sym (alike_false d (directory_of bytes) (λ e. n (ap length e ∙ length_directory bytes)))
directory_wrong bytes d (inr (k, l, n)) = sym (alike_false d (directory_of bytes) (λ e. n (ap (λ (x : List ℕ). get_or x k 0) e)))

-- ---- the check and the directory, and then what is asked

module _ (h : ℕ) (bytes d : List ℕ) {A : Type 0} (rest : Answer A) where
  -- such an answer
  abbrev pub Asked : Answer A
  Asked = check_of h bytes then 6 unless alike d (directory_of bytes) then rest

  -- 1 to 5: exactly when the check gives them
  pub those : (k : ℕ) → k ≤ 5 → (rest ≡ Refused k → ⊥) → (Asked ≡ Refused k) ↔ (check_of h bytes ≡ Refused k)
  those k l never = ((λ e. by_first (check_of h bytes) _ (λ f. never (past_test 6 k (alike d (directory_of bytes)) _ (ne_eqb 6 k (omega arith)) f).1) e), λ e. rw e)

  -- 6: a directory of wrong length, or a wrong entry
  pub six : (rest ≡ Refused 6 → ⊥) → (Asked ≡ Refused 6) ↔ (Serves (check_of h bytes) × (WrongLength (length d) bytes ⊎ WrongEntry d bytes))
  six never = (refused, λ s. rw (s.0.1, directory_wrong bytes d s.1))
    where
      refused : Asked ≡ Refused 6 → Serves (check_of h bytes) × (WrongLength (length d) bytes ⊎ WrongEntry d bytes)
      refused e =
          let s = past_first (check_of h bytes) _ (λ f. omega (arith, check_numbers h bytes 6 f)) e in
          ((s.0, s.1), wrong_directory bytes d (by_test 6 (alike d (directory_of bytes)) rest never s.2))

  -- any other: the check serves and the directory is the board's
  pub after_six : (k : ℕ) → 6 < k → (Asked ≡ Refused k) ↔ (Serves (check_of h bytes) × (d ≡ directory_of bytes) × (rest ≡ Refused k))
  after_six k l = (refused, λ s. rw (s.0.1, s.1, alike_same (directory_of bytes)) s.2)
    where
      refused : Asked ≡ Refused k → Serves (check_of h bytes) × (d ≡ directory_of bytes) × (rest ≡ Refused k)
      refused e =
          let s = past_first (check_of h bytes) _ (λ f. omega (arith, check_numbers h bytes k f)) e in
          let r = past_test 6 k (alike d (directory_of bytes)) rest (ne_eqb 6 k (omega arith)) s.2 in
          ((s.0, s.1), alike_true d (directory_of bytes) r.0, r.1)

-- ---- the directory maker

module _ (h : ℕ) (bytes : List ℕ) (n : ℕ) where
  pub made_those : (k : ℕ) → k ≤ 5 → (made_of h bytes n ≡ Refused k) ↔ (check_of h bytes ≡ Refused k)
  unfolding made_of
  made_those k l = (go (check_of h bytes) (eqb n (blocks (length bytes))), λ e. rw e)
    where
      go : (a : Answer (List ℕ)) (t : Bool) → (a then 6 unless t then a) ≡ Refused k → a ≡ Refused k
      go (Served x) t e = (past_test 6 k t (Served x) (ne_eqb 6 k (omega arith)) e).1
      go (Refused m) t e = e

  -- 6: a list of wrong length
  pub made_6 : (made_of h bytes n ≡ Refused 6) ↔ (Serves (check_of h bytes) × WrongLength n bytes)
  unfolding made_of
  made_6 = (refused, λ s. rw (s.0.1, ne_eqb n (blocks (length bytes)) s.1))
    where
      never : check_of h bytes ≡ Refused 6 → ⊥
      never e = omega (arith, check_numbers h bytes 6 e)

      refused : made_of h bytes n ≡ Refused 6 → Serves (check_of h bytes) × WrongLength n bytes
      refused e =
          let s = past_first (check_of h bytes) _ never e in
          ((s.0, s.1), eqb-false n (blocks (length bytes)) (by_test 6 (eqb n (blocks (length bytes))) (check_of h bytes) never s.2))

-- ---- membership

module _ (h : ℕ) (bytes d : List ℕ) (r c : ℕ) where
  -- what is asked of it
  abbrev member_rest : Answer Bool
  member_rest = 12 unless on_board h r c then Served (stored h bytes r c)

  member_never : (k : ℕ) → k < 12 → member_rest ≡ Refused k → ⊥
  member_never k l e = not_both (sym (past_test 12 k (on_board h r c) _ (ne_eqb 12 k (omega arith)) e).1)

  pub member_those : (k : ℕ) → k ≤ 5 → (member_of h bytes d r c ≡ Refused k) ↔ (check_of h bytes ≡ Refused k)
  unfolding member_of
  member_those k l = those h bytes d member_rest k l (member_never k (omega arith))

  -- 6: a directory of wrong length, or a wrong entry
  pub member_6 : (member_of h bytes d r c ≡ Refused 6) ↔ (Serves (check_of h bytes) × (WrongLength (length d) bytes ⊎ WrongEntry d bytes))
  unfolding member_of
  member_6 = six h bytes d member_rest (member_never 6 (omega arith))

  -- 12: the cell is not on the board
  pub member_12 : (member_of h bytes d r c ≡ Refused 12) ↔ (Serves (check_of h bytes) × (d ≡ directory_of bytes) × (CellOn h r c → ⊥))
  unfolding member_of
  member_12 =
      let on = not_passed (on_board h r c) (cell_test h r c) in
      let asked = after_six h bytes d member_rest 12 (omega arith) in
      ((λ e. let s = asked.0 e in (s.0, s.1, on.0 (by_test 12 (on_board h r c) _ (λ f. not_both (sym f)) s.2))), λ s. asked.1 (s.0, s.1, rw (on.1 s.2)))

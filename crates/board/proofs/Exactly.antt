-- The check gives each of its numbers, 1 to 5, exactly when the table says, in the order of document 01.
use Prim.Native.Nat.{ℕ, zero, suc, ◌+◌, ◌*◌, ◌-◌, ◌/◌, ◌^◌, ◌≤◌, ◌<◌}
use mathlib.Core.Bool.{Bool, true, false, ◌&&◌}
use mathlib.Core.Logic.{◌↔◌, ◌⊎◌, inl, inr, ⊎_elim}
use mathlib.Core.Path.{◌≡◌, refl, sym, ◌∙◌}
use mathlib.Core.List.{List, [], ◌∷◌}
use native.Mathlib.Omega.{arith}
use native.Mathlib.Nat.{zero-div, zero-mod}
use lib.ListN.{length, get_or-eq_default}
use lib.Dec.{leb, eqb}
use borrow.Author.Tests.{leb-true, eqb-true, leb-false, eqb-false, le-leb, lt-leb, eq-eqb, ne_eqb}
use Rattle.refusal.proofs.Tests.{both}
use Rattle.refusal.specs.Answer.{Answer, Served, Refused, ◌unless◌, ◌then◌}
use Rattle.refusal.proofs.Answers.{not_both}
use Rattle.order.proofs.Cases.{test_cases, leb_cases, same?}
use Rattle.bitmap.specs.Bits.{bit_at, bit_of, group_at}
use Rattle.bitmap.proofs.Ones.{bit_small, group_small, group_bits, bit_of_group}
use Rattle.board.specs.Limits.{max_height, max_joints}
use Rattle.board.specs.Levels.{joints, groups}
use Rattle.board.specs.Check.{missing, empty, faulty, fault_at, enough, check_of}
use Rattle.board.specs.Valid.{Valid}
use Rattle.board.specs.Table.{HeightServed, EndBefore, AllZero, SoundBefore, FirstAt, BytesOver, UnusedOne}
use Rattle.board.proofs.Valid.{sound_group, group_sound, check_fault, check_sized, just_valid, valid_sized}
use Rattle.board.proofs.Levels.{groups_pos}
use Rattle.board.proofs.Tests.{height_test}
use Rattle.refusal.proofs.Refused.{past_test, by_test}

-- ---- the tests in the table's words

-- no group before g has a fault
sound_before : (bytes : List ℕ) (g : ℕ) → ((i : ℕ) → i < g → faulty bytes i ≡ false) → SoundBefore bytes g
sound_before bytes g f i k =
    let s = sound_group bytes i (f i k) in
    ((λ e. omega (arith, s.0)), λ z. omega (arith, s.1 z.0))

before_sound : (bytes : List ℕ) (g : ℕ) → SoundBefore bytes g → (i : ℕ) → i < g → faulty bytes i ≡ false
before_sound bytes g s i k =
    leb_cases (2 * length bytes) i
    (λ l e. absurd ((s i k).0 (omega arith)))
    (λ l e. group_sound bytes i l (λ pos. leb_cases 1 (group_at bytes i) (λ m f. m) (λ m f. absurd ((s i k).1 (pos, omega arith)))))

-- what a fault is, and what it is not
fault_number : (bytes : List ℕ) (g : ℕ) → faulty bytes g ≡ true → (EndBefore bytes g × (fault_at bytes g ≡ 2)) ⊎ ((EndBefore bytes g → ⊥) × AllZero bytes g × (fault_at bytes g ≡ 3))
unfolding fault_at missing empty
fault_number bytes g e =
    leb_cases (2 * length bytes) g
    (λ l f. inl (omega arith, rw f))
    (λ l f. let zero-group = both (leb 1 g) (eqb (group_at bytes g) 0) (rw f at e) in inr ((λ k. omega arith), (leb-true 1 g zero-group.0, eqb-true _ _ zero-group.1), rw f))

end_fault : (bytes : List ℕ) (g : ℕ) → EndBefore bytes g → (faulty bytes g ≡ true) × (fault_at bytes g ≡ 2)
unfolding fault_at missing
end_fault bytes g e = let t = le-leb (2 * length bytes) g (omega arith) in (rw t, rw t)

zero_fault : (bytes : List ℕ) (g : ℕ) → (EndBefore bytes g → ⊥) → AllZero bytes g → (faulty bytes g ≡ true) × (fault_at bytes g ≡ 3)
unfolding fault_at missing empty
zero_fault bytes g n z =
    let t = lt-leb (2 * length bytes) g (leb_cases (2 * length bytes) g (λ l e. absurd (n (omega arith))) (λ l e. l)) in
    (rw (t, le-leb 1 g z.0, eq-eqb (group_at bytes g) 0 z.1), rw t)

-- the first number below n that passes a test, if one does
first_of : (p : ℕ → Bool) (n : ℕ) → ((i : ℕ) → i < n → p i ≡ false) ⊎ ((g : ℕ) × (g < n) × (p g ≡ true) × ((i : ℕ) → i < g → p i ≡ false))
first_of p zero = inl (λ i k. absurd (omega arith))
first_of p (suc n) =
    ⊎_elim
    (λ none. test_cases (p n) (λ e. inr (n, omega arith, e, none)) (λ e. inl (λ i k. same? i n (λ q. rw q e) (λ q. none i (omega arith)))))
    (λ f. inr (f.0, omega (arith, f.1), f.2, f.3))
    (first_of p n)

-- past the last byte every bit is 0
bit_there : (bytes : List ℕ) (p : ℕ) → bit_at bytes p ≡ 1 → p < 8 * length bytes
unfolding bit_at
bit_there bytes p e =
    leb_cases (length bytes) (p / 8)
    (λ l f. absurd (let z = rw (get_or-eq_default bytes 0 l, zero-div, zero-mod) at e in omega arith))
    (λ l f. omega arith)

-- a group that is not zero has a bit that is one
one_of : (bytes : List ℕ) (g : ℕ) → 1 ≤ group_at bytes g → (q : ℕ) × (q < 4) × (bit_at bytes (4 * g + q) ≡ 1)
one_of bytes g pos =
    let bits = group_at bytes g in
    let sum = group_bits bits (group_small bytes g) in
    pick 0 (omega arith) (λ a. pick 1 (omega arith) (λ b. pick 2 (omega arith) (λ c. pick 3 (omega arith) (λ d. absurd (omega arith)))))
  where
    pick : (q : ℕ) → q < 4 → (bit_of (group_at bytes g) q ≡ 0 → (q : ℕ) × (q < 4) × (bit_at bytes (4 * g + q) ≡ 1)) → (q : ℕ) × (q < 4) × (bit_at bytes (4 * g + q) ≡ 1)
    pick q k other =
        same? (bit_of (group_at bytes g) q) 0 other (λ n. (q, k, bit_of_group bytes g q k ∙ omega (arith, bit_small (group_at bytes g) q)))

-- the bytes are not just enough: bytes are left over, or an unused bit is one
not_enough_over : (bytes : List ℕ) (g : ℕ) → g ≤ 2 * length bytes → enough bytes g ≡ false
    → ((g + 1) / 2 < length bytes) ⊎ ((p : ℕ) × (4 * g ≤ p) × (p < 8 * length bytes) × (bit_at bytes p ≡ 1))
unfolding enough
not_enough_over bytes g there e =
    test_cases (eqb (length bytes) ((g + 1) / 2))
    (λ f. let one = one_of bytes g (not_zero (eqb-false (group_at bytes g) 0 (rw f at e))) in
    inr (4 * g + one.0, omega arith, bit_there bytes (4 * g + one.0) one.2, one.2))
    (λ f. inl (let d = eqb-false (length bytes) ((g + 1) / 2) f in omega (arith, d)))
  where
    not_zero : {n : ℕ} → (n ≡ 0 → ⊥) → 1 ≤ n
    not_zero {n} d = omega (arith, d)

-- and back
over_not_enough : (bytes : List ℕ) (g : ℕ) → ((g + 1) / 2 < length bytes) ⊎ ((p : ℕ) × (4 * g ≤ p) × (p < 8 * length bytes) × (bit_at bytes p ≡ 1)) → enough bytes g ≡ false
unfolding enough bit_of
over_not_enough bytes g (inl k) = rw (ne_eqb (length bytes) ((g + 1) / 2) (omega arith))
over_not_enough bytes g (inr (p, low, high, one)) =
    test_cases (eqb (length bytes) ((g + 1) / 2))
    (λ f. rw f (ne_eqb (group_at bytes g) 0 (λ z. zero_bit (eqb-true (length bytes) ((g + 1) / 2) f) z)))
    (λ f. rw f)
  where
    zero_bit : length bytes ≡ (g + 1) / 2 → group_at bytes g ≡ 0 → ⊥
    zero_bit size z =
        let at : p ≡ 4 * g + (p - 4 * g) = omega arith in
        let bit = rw z at (bit_of_group bytes g (p - 4 * g) (omega arith)) in
        omega (arith, zero-div (2 ^ (3 - (p - 4 * g))), rw (← at) at bit)

-- ---- the check

module _ (h : ℕ) (bytes : List ℕ) where
  -- what it says where every group is sound
  abbrev sized : Answer (List ℕ)
  sized = 4 unless enough bytes (groups h bytes) then 5 unless leb (length (joints h bytes)) max_joints then Served (length (joints h bytes) ∷ groups h bytes ∷ [])

  sized_never : (k : ℕ) → eqb 4 k ≡ false → eqb 5 k ≡ false → sized ≡ Refused k → ⊥
  sized_never k a b e = not_both (sym (past_test 5 k (leb (length (joints h bytes)) max_joints) _ b (past_test 4 k (enough bytes (groups h bytes)) _ a e).1).1)

  -- it goes by the first fault, or by the size
  goes_by : HeightServed h → (SoundBefore bytes (groups h bytes) × (check_of h bytes ≡ sized))
      ⊎ ((g : ℕ) × FirstAt h bytes g × (faulty bytes g ≡ true) × (check_of h bytes ≡ Refused (fault_at bytes g)))
  goes_by t =
      ⊎_elim
      (λ none. inl (sound_before bytes (groups h bytes) none, check_sized h bytes t.0 t.1 none))
      (λ f. inr (f.0, (f.1, sound_before bytes f.0 f.3), f.2, check_fault h bytes f.0 t.0 t.1 f.1 f.2 f.3))
      (first_of (faulty bytes) (groups h bytes))

  past_height : (k : ℕ) → eqb 1 k ≡ false → check_of h bytes ≡ Refused k → HeightServed h
  unfolding check_of
  past_height k d e = (height_test h).0 (past_test 1 k (leb 1 h && leb h max_height) _ d e).0

  -- 1: the height is not 1 to 10
  pub check_1 : (check_of h bytes ≡ Refused 1) ↔ (HeightServed h → ⊥)
  check_1 = (refused, λ n. test_cases (leb 1 h && leb h max_height) (λ e. absurd (n ((height_test h).0 e))) (λ e. unfold check_of in rw e))
    where
      refused : check_of h bytes ≡ Refused 1 → HeightServed h → ⊥
      refused e t =
          ⊎_elim
          (λ s. sized_never 1 refl refl (sym s.1 ∙ e))
          (λ f. let one : fault_at bytes f.0 ≡ 1 = cc in ⊎_elim (λ a. omega (arith, a.1)) (λ b. omega (arith, b.2)) (fault_number bytes f.0 f.2))
          (goes_by t)

  -- 2: the first group with a fault is one that the bytes end before
  pub check_2 : (check_of h bytes ≡ Refused 2) ↔ (HeightServed h × (g : ℕ) × FirstAt h bytes g × EndBefore bytes g)
  check_2 = (refused, λ s. let f = end_fault bytes s.1 s.3 in rw (← f.1) (check_fault h bytes s.1 s.0.0 s.0.1 s.2.0 f.0 (before_sound bytes s.1 s.2.1)))
    where
      refused : check_of h bytes ≡ Refused 2 → HeightServed h × (g : ℕ) × FirstAt h bytes g × EndBefore bytes g
      refused e =
          let t = past_height 2 refl e in
          ⊎_elim
          (λ s. absurd (sized_never 2 refl refl (sym s.1 ∙ e)))
          (λ f. let two : fault_at bytes f.0 ≡ 2 = cc in ⊎_elim (λ a. (t, f.0, f.1, a.0)) (λ b. absurd (omega (arith, b.2))) (fault_number bytes f.0 f.2))
          (goes_by t)

  -- 3: the first group with a fault is there, is not group 0, and is all zero
  pub check_3 : (check_of h bytes ≡ Refused 3) ↔ (HeightServed h × (g : ℕ) × FirstAt h bytes g × (EndBefore bytes g → ⊥) × AllZero bytes g)
  check_3 = (refused, λ s. let f = zero_fault bytes s.1 s.3 s.4 in rw (← f.1) (check_fault h bytes s.1 s.0.0 s.0.1 s.2.0 f.0 (before_sound bytes s.1 s.2.1)))
    where
      refused : check_of h bytes ≡ Refused 3 → HeightServed h × (g : ℕ) × FirstAt h bytes g × (EndBefore bytes g → ⊥) × AllZero bytes g
      refused e =
          let t = past_height 3 refl e in
          ⊎_elim
          (λ s. absurd (sized_never 3 refl refl (sym s.1 ∙ e)))
          (λ f. let three : fault_at bytes f.0 ≡ 3 = cc in ⊎_elim (λ a. absurd (omega (arith, a.1))) (λ b. (t, f.0, f.1, b.0, b.1)) (fault_number bytes f.0 f.2))
          (goes_by t)

  -- where every group is sound, the bytes reach to the last
  groups_there : 1 ≤ h → SoundBefore bytes (groups h bytes) → groups h bytes ≤ 2 * length bytes
  groups_there tall s =
      let pos = groups_pos bytes h tall in
      leb_cases (groups h bytes) (2 * length bytes) (λ l e. l) (λ l e. absurd ((s (groups h bytes - 1) (omega arith)).0 (omega arith)))

  -- past the faults it goes by the size
  past_faults : (k : ℕ) → eqb 1 k ≡ false → eqb 2 k ≡ false → eqb 3 k ≡ false → check_of h bytes ≡ Refused k
      → HeightServed h × SoundBefore bytes (groups h bytes) × (sized ≡ Refused k)
  past_faults k a b c e =
      let t = past_height k a e in
      ⊎_elim
      (λ s. (t, s.0, sym s.1 ∙ e))
      (λ f. let same : fault_at bytes f.0 ≡ k = cc in
      absurd (⊎_elim (λ x. eqb-false 2 k b (sym x.1 ∙ same)) (λ x. eqb-false 3 k c (sym x.2 ∙ same)) (fault_number bytes f.0 f.2)))
      (goes_by t)

  -- and back
  goes_by_size : HeightServed h → SoundBefore bytes (groups h bytes) → check_of h bytes ≡ sized
  goes_by_size t s = check_sized h bytes t.0 t.1 (before_sound bytes (groups h bytes) s)

  -- 4: bytes left over, or an unused bit is one
  pub check_4 : (check_of h bytes ≡ Refused 4) ↔ (HeightServed h × SoundBefore bytes (groups h bytes) × (BytesOver h bytes ⊎ UnusedOne h bytes))
  check_4 = (refused, λ s. goes_by_size s.0 s.1 ∙ rw (over_not_enough bytes (groups h bytes) s.2))
    where
      refused : check_of h bytes ≡ Refused 4 → HeightServed h × SoundBefore bytes (groups h bytes) × (BytesOver h bytes ⊎ UnusedOne h bytes)
      refused e =
          let s = past_faults 4 refl refl refl e in
          let few = leb (length (joints h bytes)) max_joints in
          let not-enough = by_test 4 (enough bytes (groups h bytes)) _ (λ f. not_both (sym (past_test 5 4 few _ refl f).1)) s.2 in
          (s.0, s.1, not_enough_over bytes (groups h bytes) (groups_there s.0.0 s.1) not-enough)

  -- 5: a valid bitmap of more than 4,096 joints
  pub check_5 : (check_of h bytes ≡ Refused 5) ↔ (HeightServed h × Valid h bytes × (max_joints < length (joints h bytes)))
  check_5 = (refused, λ s. valid_sized h bytes s.1 s.0.1 ∙ rw (lt-leb (length (joints h bytes)) max_joints s.2))
    where
      refused : check_of h bytes ≡ Refused 5 → HeightServed h × Valid h bytes × (max_joints < length (joints h bytes))
      refused e =
          let s = past_faults 5 refl refl refl e in
          let few = leb (length (joints h bytes)) max_joints in
          let full = past_test 4 5 (enough bytes (groups h bytes)) _ refl s.2 in
          let many = by_test 5 few _ (λ f. not_both (sym f)) full.1 in
          (s.0, just_valid h bytes s.0.0 (before_sound bytes (groups h bytes) s.1) full.0, leb-false _ _ many)

  -- it gives no other number
  pub check_numbers : (k : ℕ) → check_of h bytes ≡ Refused k → (1 ≤ k) × (k ≤ 5)
  check_numbers k e =
      same? 1 k (λ q. omega (arith, q)) (λ not-1. same? 2 k (λ q. omega (arith, q)) (λ not-2. same? 3 k (λ q. omega (arith, q))
      (λ not-3. same? 4 k (λ q. omega (arith, q)) (λ not-4. same? 5 k (λ q. omega (arith, q))
      (λ not-5. absurd (sized_never k (ne_eqb 4 k not-4) (ne_eqb 5 k not-5) (past_faults k (ne_eqb 1 k not-1) (ne_eqb 2 k not-2) (ne_eqb 3 k not-3) e).2))))))

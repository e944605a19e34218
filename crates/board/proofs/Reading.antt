-- The check as its loops go: what is known where a level begins and where a group of it is read, and how each goes on.
use Prim.Native.Nat.{ℕ, zero, suc, ◌+◌, ◌*◌, ◌/◌, ◌%◌, ◌^◌, ◌≤◌, ◌<◌}
use mathlib.Core.Bool.{Bool, true, false, cond}
use mathlib.Core.Logic.{◌⊎◌, inl, inr}
use mathlib.Core.Path.{◌≡◌, refl, sym}
use mathlib.Core.List.{List, [], ◌∷◌}
use native.Mathlib.Omega.{arith}
use native.Mathlib.Numerals.{add-one}
use native.Mathlib.Nat.{eq-or-lt_of_le, pow-suc, pow-le-pow_right}
use lib.ListN.{length}
use lib.Dec.{leb}
use borrow.Author.Tests.{le-leb, lt-leb, eq-eqb, ne_eqb}
use Rattle.std.specs.Prelude.{Result, Ok, Err}
use Rattle.std.specs.Result.{is_err}
use Rattle.refusal.specs.declared.Refusal.{Refusal}
use Rattle.refusal.specs.Answer.{Answer, Served, Refused, ◌unless◌, ◌then◌}
use Rattle.refusal.proofs.Answers.{not_both}
use Rattle.order.specs.Order.{keep}
use lib.Count.{ones}
use lib.Bits.{bit_and}
use Rattle.order.proofs.Cases.{ltb_cases}
use Rattle.bitmap.specs.Bits.{group_at, ones_before, ones_of}
use Rattle.bitmap.specs.Words.{word_at, Bytes}
use Rattle.bitmap.proofs.Words.{marks, spread, word_ones, groups_pos}
use Rattle.bitmap.proofs.Ones.{ones_before_suc, ones_small}
use Rattle.board.specs.Limits.{max_height, max_joints}
use Rattle.board.specs.Levels.{level, joints, groups}
use Rattle.board.specs.Run.{run, Sound16}
use Rattle.board.specs.Check.{missing, empty, faulty, fault_at, first_fault, enough, check_of}
use Rattle.board.proofs.Levels.{groups_suc, groups_ones, groups_mono, total_ones}
use Rattle.board.proofs.Bounds.{level_le}
use Rattle.board.proofs.Valid.{group_sound, check_fault, check_sized}

-- where level n begins: its first group, its boxes, and no group before has a fault
pub record AtLevel (bytes : List ℕ) (n g boxes : ℕ) : Type 0 where
  pub starts : g ≡ groups n bytes
  pub counts : boxes ≡ length (joints n bytes)
  pub sound : (i : ℕ) → i < g → faulty bytes i ≡ false

-- where i groups of level n are read, and g is the next: the ones of these, and no group before has a fault
pub record AtGroup (bytes : List ℕ) (n ones i g : ℕ) : Type 0 where
  pub place : g ≡ groups n bytes + i
  pub within : i ≤ length (joints n bytes)
  pub few : ones ≤ 4 * i
  pub sum : ones_before bytes (4 * g) ≡ ones_before bytes (4 * groups n bytes) + ones
  pub sound : (k : ℕ) → k < g → faulty bytes k ≡ false

-- the fault of one group: the bytes end before it
pub missing_fault : (bytes : List ℕ) (g : ℕ) → 2 * length bytes ≤ g → Refused 2 ≡ first_fault bytes (keep (faulty bytes) (g ∷ []))
unfolding first_fault keep missing fault_at
missing_fault bytes g h = rw (le-leb (2 * length bytes) g h) (rw (le-leb (2 * length bytes) g h))

-- or it is there and empty
pub empty_fault : (bytes : List ℕ) (g : ℕ) → g < 2 * length bytes → 1 ≤ g → group_at bytes g ≡ 0 → Refused 3 ≡ first_fault bytes (keep (faulty bytes) (g ∷ []))
unfolding first_fault keep missing empty fault_at
empty_fault bytes g h pos none =
    rw (lt-leb (2 * length bytes) g h, le-leb 1 g pos, eq-eqb (group_at bytes g) 0 none) (rw (lt-leb (2 * length bytes) g h))

-- or it has none
pub without_fault : (bytes : List ℕ) (g : ℕ) → g < 2 * length bytes → (1 ≤ g → 1 ≤ group_at bytes g) → Served true ≡ first_fault bytes (keep (faulty bytes) (g ∷ []))
unfolding first_fault keep
without_fault bytes g h one = rw (group_sound bytes g h one)

-- where none is found
pub no_fault : (r : Result (Unit {0}) Refusal) → is_err r ≡ false → r ≡ Ok tt
no_fault (Ok x) e = refl
no_fault (Err refusal) e = cc

-- what the first fault of one group says
pub one_fault : (bytes : List ℕ) (g : ℕ) {t : Bool} → first_fault bytes (keep (faulty bytes) (g ∷ [])) ≡ Served t → faulty bytes g ≡ false
unfolding first_fault keep
one_fault bytes g e = go (faulty bytes g) e
  where
    go : (b : Bool) {t : Bool} → first_fault bytes (cond b (g ∷ []) []) ≡ Served t → b ≡ false
    go true f = absurd (not_both f)
    go false f = refl

some_fault : (bytes : List ℕ) (g : ℕ) {k : ℕ} → first_fault bytes (keep (faulty bytes) (g ∷ [])) ≡ Refused k → (faulty bytes g ≡ true) × (k ≡ fault_at bytes g)
unfolding first_fault keep
some_fault bytes g e = go (faulty bytes g) e
  where
    go : (b : Bool) {k : ℕ} → first_fault bytes (cond b (g ∷ []) []) ≡ Refused k → (b ≡ true) × (k ≡ fault_at bytes g)
    go true f = (refl, cc)
    go false f = absurd (not_both (sym f))

-- the whole board is the only box of level 0
pub level_start : (bytes : List ℕ) → AtLevel bytes 0 0 1
unfolding groups joints level
level_start bytes = record { starts = refl; counts = refl; sound = λ i k. absurd (omega arith) }

-- one group more, without a fault
pub group_step : (bytes : List ℕ) (n ones i g : ℕ) → AtGroup bytes n ones i g → i < length (joints n bytes) → faulty bytes g ≡ false
    → AtGroup bytes n (ones + ones_of (group_at bytes g)) (i + 1) (g + 1)
group_step bytes n ones i g a h good = record {
  place = omega (arith, a.place);
  within = omega arith;
  few = omega (arith, a.few, ones_small (group_at bytes g));
  sum = rw (add-one g) (omega (arith, a.sum, ones_before_suc bytes g));
  sound = λ k l. go k (eq-or-lt_of_le {n = k} {m = g} (omega arith));
}
  where
    go : (k : ℕ) → (k ≡ g) ⊎ (k < g) → faulty bytes k ≡ false
    go k (inl e) = rw e good
    go k (inr l) = a.sound k l

-- sixteen groups more, read at once
pub run_step : (bytes : List ℕ) (n ones i g more : ℕ) → AtGroup bytes n ones i g → i + run ≤ length (joints n bytes) → Sound16 bytes g more → more ≤ 64
    → AtGroup bytes n (ones + more) (i + run) (g + run)
run_step bytes n ones i g more a h r few = record {
  place = omega (arith, a.place);
  within = h;
  few = omega (arith, a.few);
  sum = omega (arith, a.sum, r.sum);
  sound = λ k l. ltb_cases k g (λ m t. a.sound k m) (λ m t. group_sound bytes k (omega (arith, r.there)) (λ pos. r.full k m l));
}

-- sixteen groups of a word that passes the test
pub run_sound : (bytes : List ℕ) (g w : ℕ) → Bytes bytes → g % 2 ≡ 0 → w ≡ word_at bytes (g / 2) 8 → g / 2 + 8 ≤ length bytes
    → bit_and (spread w) (marks run) ≡ marks run → (ones w ≤ 64) × Sound16 bytes g (ones w)
run_sound bytes g w b even e there test =
    let all = rw e at test in
    let from : 4 * g ≡ 8 * (g / 2) = omega arith in
    let to : 4 * (g + run) ≡ 8 * (g / 2 + 8) = omega arith in
    rw e ((word_ones bytes (g / 2) 8 b).1, record { there = omega arith; full = groups_pos bytes g b even all; sum = rw (from, to) (word_ones bytes (g / 2) 8 b).0 })

-- the ones of a level are the boxes of the next
pub level_step : (bytes : List ℕ) (n ones i g : ℕ) → AtGroup bytes n ones i g → length (joints n bytes) ≤ i → AtLevel bytes (n + 1) g ones
level_step bytes n ones i g a h =
    let at : g ≡ groups (suc n) bytes = omega (arith, a.place, a.within, groups_suc bytes n) in
    let sum = rw at at a.sum in
    rw (add-one n) record { starts = at; counts = omega (arith, sum, groups_ones bytes n, total_ones bytes (suc n)); sound = a.sound }

-- a group with a fault ends the check
pub level_fault : (h : ℕ) (bytes : List ℕ) (n ones i g : ℕ) {k : ℕ} → 1 ≤ h → h ≤ max_height → n < h → AtGroup bytes n ones i g → i < length (joints n bytes)
    → first_fault bytes (keep (faulty bytes) (g ∷ [])) ≡ Refused k → Refused k ≡ check_of h bytes
level_fault h bytes n ones i g tall low k a l bad =
    let fault = some_fault bytes g bad in
    rw fault.1
    (sym (check_fault h bytes g tall low (omega (arith, a.place, groups_suc bytes n, groups_mono bytes (suc n) h k)) fault.0 a.sound))

-- with no fault it goes by the size
pub level_end : (h : ℕ) (bytes : List ℕ) (n g boxes : ℕ) → 1 ≤ h → h ≤ max_height → AtLevel bytes n g boxes → n ≡ h
    → check_of h bytes ≡ (4 unless enough bytes g then 5 unless leb boxes max_joints then Served (boxes ∷ g ∷ []))
level_end h bytes n g boxes tall low l e =
    rw (l.starts, l.counts, e) (check_sized h bytes tall low (λ i k. l.sound i (rw (l.starts, e) k)))

-- the height is refused first
pub check_low : (h : ℕ) (bytes : List ℕ) → h < 1 → Refused 1 ≡ check_of h bytes
unfolding check_of
check_low h bytes k = rw (lt-leb 1 h k)

pub check_high : (h : ℕ) (bytes : List ℕ) → max_height < h → Refused 1 ≡ check_of h bytes
unfolding check_of
check_high h bytes k = rw (le-leb 1 h (omega arith), lt-leb h max_height k)

-- the end of the check: not just enough bytes
pub size_off : (bytes : List ℕ) (g : ℕ) (rest : Answer (List ℕ)) → (length bytes ≡ (g + 1) / 2 → ⊥) → Refused 4 ≡ (4 unless enough bytes g then rest)
unfolding enough
size_off bytes g rest n = rw (ne_eqb _ _ n)

-- or the half byte that is over is not zero
pub spare_off : (bytes : List ℕ) (g : ℕ) (rest : Answer (List ℕ)) → length bytes ≡ (g + 1) / 2 → (group_at bytes g ≡ 0 → ⊥) → Refused 4 ≡ (4 unless enough bytes g then rest)
unfolding enough
spare_off bytes g rest e n = rw (eq-eqb _ _ e, ne_eqb _ _ n)

-- or it goes by the joints
pub size_right : (bytes : List ℕ) (g : ℕ) (rest : Answer (List ℕ)) → length bytes ≡ (g + 1) / 2 → group_at bytes g ≡ 0 → (4 unless enough bytes g then rest) ≡ rest
unfolding enough
size_right bytes g rest e f = rw (eq-eqb _ _ e, eq-eqb _ _ f)

-- the levels above level n have no more groups than level n can have
groups_le_pow : (bytes : List ℕ) (n : ℕ) → groups n bytes ≤ 4 ^ n
groups_le_pow bytes zero = unfold groups level in omega arith
groups_le_pow bytes (suc n) = rw pow-suc (omega (arith, groups_suc bytes n, groups_le_pow bytes n, level_le bytes n))

-- so the numbers of the check fit: a level's groups and all its bits
pub level_fits : (bytes : List ℕ) (n : ℕ) → n ≤ max_height → (groups n bytes ≤ 2 ^ 24) × (length (joints n bytes) ≤ 2 ^ 24)
unfolding max_height
level_fits bytes n h =
    let most : 4 ^ n ≤ 4 ^ max_height = pow-le-pow_right (omega arith) h in
    (omega (arith, groups_le_pow bytes n), omega (arith, level_le bytes n))

-- The window gives each of its numbers exactly when the table says, in the order of document 01.
use Prim.Native.Nat.{ℕ, ◌^◌, ◌≤◌, ◌<◌}
use mathlib.Core.Bool.{Bool, true, false, ◌&&◌}
use mathlib.Core.Logic.{◌↔◌, ◌⊎◌, inl, inr}
use mathlib.Core.Path.{◌≡◌, refl, sym}
use mathlib.Core.List.{List}
use native.Mathlib.Omega.{arith}
use lib.ListN.{length}
use lib.Dec.{leb, ltb}
use borrow.Author.Tests.{leb-true, ltb-true, leb-false, le-leb, lt-leb, ne_eqb, lt-ltb}
use Rattle.refusal.proofs.Tests.{both}
use Rattle.refusal.specs.Answer.{Answer, Served, Refused, ◌unless◌, ◌then◌}
use Rattle.refusal.proofs.Answers.{not_both}
use Rattle.order.proofs.Cases.{test_cases}
use Rattle.bitmap.specs.Directory.{directory_of}
use Rattle.board.specs.Check.{check_of}
use Rattle.window.specs.Window.{Window, ends_fit, window_fits, found, roomed, window_of}
use Rattle.board.specs.Table.{WrongLength, WrongEntry, Serves}
use Rattle.board.proofs.Tests.{not_passed}
use Rattle.refusal.proofs.Refused.{past_test, by_test}
use Rattle.window.specs.Table.{WindowOn}
use Rattle.board.proofs.ExactlyAsked.{those, six, after_six}

module _ (h : ℕ) (bytes d : List ℕ) (w : Window) (rows columns : ℕ) where
  -- what is asked of it
  abbrev window_rest : Answer ℕ
  window_rest = 12 unless window_fits h w then roomed (length (found w h bytes)) rows columns

  -- both lists have the room
  abbrev room : Bool
  room = leb (length (found w h bytes)) rows && leb (length (found w h bytes)) columns

  roomed_never : (k : ℕ) → (9 ≡ k → ⊥) → roomed (length (found w h bytes)) rows columns ≡ Refused k → ⊥
  unfolding roomed
  roomed_never k n e = not_both (sym (past_test 9 k room _ (ne_eqb 9 k n) e).1)

  window_never : (k : ℕ) → k < 9 → window_rest ≡ Refused k → ⊥
  window_never k l e = roomed_never k (omega arith) (past_test 12 k (window_fits h w) _ (ne_eqb 12 k (omega arith)) e).1

  window_on : (window_fits h w ≡ true) ↔ WindowOn h w
  unfolding ends_fit
  window_on = (on, λ o. rw (lt-ltb w.top (2 ^ h) o.0.0, lt-ltb w.bottom (2 ^ h) o.1.0, le-leb w.top w.bottom o.2, lt-ltb w.left (2 ^ h) o.0.1, lt-ltb w.right (2 ^ h) o.1.1, le-leb w.left w.right o.3))
    where
      ends_on : (lowest highest : ℕ) → ends_fit h lowest highest ≡ true → (lowest < 2 ^ h) × (highest < 2 ^ h) × (lowest ≤ highest)
      ends_on lowest highest e =
          let t = both (ltb lowest (2 ^ h) && ltb highest (2 ^ h)) (leb lowest highest) e in
          let s = both (ltb lowest (2 ^ h)) (ltb highest (2 ^ h)) t.0 in
          (ltb-true lowest (2 ^ h) s.0, ltb-true highest (2 ^ h) s.1, leb-true lowest highest t.1)

      on : window_fits h w ≡ true → WindowOn h w
      on e =
          let t = both (ends_fit h w.top w.bottom) (ends_fit h w.left w.right) e in
          let rs = ends_on w.top w.bottom t.0 in
          let cs = ends_on w.left w.right t.1 in
          ((rs.0, cs.0), (rs.1, cs.1), rs.2, cs.2)

  pub window_those : (k : ℕ) → k ≤ 5 → (window_of h bytes d w rows columns ≡ Refused k) ↔ (check_of h bytes ≡ Refused k)
  unfolding window_of
  window_those k l = those h bytes d window_rest k l (window_never k (omega arith))

  -- 6: a directory of wrong length, or a wrong entry
  pub window_6 : (window_of h bytes d w rows columns ≡ Refused 6) ↔ (Serves (check_of h bytes) × (WrongLength (length d) bytes ⊎ WrongEntry d bytes))
  unfolding window_of
  window_6 = six h bytes d window_rest (window_never 6 (omega arith))

  -- 12: an end is not on the board, or a lowest is above its highest
  pub window_12 : (window_of h bytes d w rows columns ≡ Refused 12) ↔ (Serves (check_of h bytes) × (d ≡ directory_of bytes) × (WindowOn h w → ⊥))
  unfolding window_of
  window_12 =
      let on = not_passed (window_fits h w) window_on in
      let asked = after_six h bytes d window_rest 12 (omega arith) in
      ((λ e. let s = asked.0 e in (s.0, s.1, on.0 (by_test 12 (window_fits h w) _ (roomed_never 12 (omega arith)) s.2))), λ s. asked.1 (s.0, s.1, rw (on.1 s.2)))

  -- 9: a list is shorter than the cells found
  pub window_9 : (window_of h bytes d w rows columns ≡ Refused 9)
      ↔ (Serves (check_of h bytes) × (d ≡ directory_of bytes) × WindowOn h w × ((rows < length (found w h bytes)) ⊎ (columns < length (found w h bytes))))
  unfolding window_of roomed
  window_9 = (refused, λ s. (after_six h bytes d window_rest 9 (omega arith)).1 (s.0, s.1, rw (window_on.1 s.2) (short_room s.3)))
    where
      short_room : (rows < length (found w h bytes)) ⊎ (columns < length (found w h bytes)) → roomed (length (found w h bytes)) rows columns ≡ Refused 9
      short_room (inl k) = rw (lt-leb (length (found w h bytes)) rows k)
      short_room (inr k) = test_cases (leb (length (found w h bytes)) rows) (λ e. rw (e, lt-leb (length (found w h bytes)) columns k)) (λ e. rw e)

      room_short : room ≡ false → (rows < length (found w h bytes)) ⊎ (columns < length (found w h bytes))
      room_short e = test_cases (leb (length (found w h bytes)) rows) (λ t. inr (leb-false _ _ (rw t at e))) (λ t. inl (leb-false _ _ t))

      refused : window_of h bytes d w rows columns ≡ Refused 9
          → Serves (check_of h bytes) × (d ≡ directory_of bytes) × WindowOn h w × ((rows < length (found w h bytes)) ⊎ (columns < length (found w h bytes)))
      refused e =
          let s = (after_six h bytes d window_rest 9 (omega arith)).0 e in
          let t = past_test 12 9 (window_fits h w) _ refl s.2 in
          (s.0, s.1, window_on.0 t.0, room_short (by_test 9 room (Served (length (found w h bytes))) (λ f. not_both (sym f)) t.1))

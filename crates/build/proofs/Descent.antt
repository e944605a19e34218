-- The levels written one after the other: the invariant of the loop over the levels, from the whole board down.
use Prim.Native.Nat.{ℕ, zero, suc, ◌+◌, ◌*◌, ◌-◌, ◌^◌, ◌≤◌, ◌<◌}
use mathlib.Core.Path.{◌≡◌, refl, sym, ap, ◌∙◌}
use mathlib.Core.Logic.{◌⊎◌, inl, inr}
use mathlib.Core.List.{List, [], ◌∷◌, ◌++◌, map, append_assoc, append-nil}
use native.Mathlib.Omega.{arith}
use native.Mathlib.Nat.{div-eq_of_lt}
use lib.ListN.{length, replicate}
use Rattle.order.specs.Order.{distinct, has}
use Rattle.order.proofs.Sets.{In, Rising, has_here, in_cons, not_in_nil, rising_ext}
use Rattle.board.specs.Limits.{max_joints}
use Rattle.build.specs.Build.{boxes_of, group_of, groups_from, pack}
use Rattle.build.specs.Writing.{fit, level_of, Written}
use Rattle.build.proofs.Boxes.{in_boxes_of, boxes_of_in, rising_boxes_of}
use Rattle.build.proofs.Below.{below_one}
use Rattle.build.proofs.Fit.{fit_none}
use Rattle.build.proofs.Amid.{written_none}

-- the levels above side 2 ^ s are written
pub record Descent (h : ℕ) (ds : List ℕ) (s g : ℕ) (bitmap : List ℕ) : Type 0 where
  pub high : s ≤ h
  pub done : List ℕ
  pub parts : groups_from h (0 ∷ []) ds ≡ done ++ groups_from s (boxes_of s ds) ds
  pub put : Written done g bitmap
  pub few : g ≤ (h - s) * max_joints

-- some cells: the whole board is their one box
root_box : (h : ℕ) (ds : List ℕ) (c : ℕ) → In c ds → Rising ds → ((z : ℕ) → In z ds → z < 4 ^ h) → boxes_of h ds ≡ 0 ∷ []
root_box h ds c i r small =
    rising_ext _ (0 ∷ []) (rising_boxes_of h ds r) ((λ z k. absurd (not_in_nil z k)), tt)
    (λ z k. let d = in_boxes_of h z ds k in rw (← d.2, div-eq_of_lt (small d.0 d.1)) (has_here 0 []))
    (λ z k. go z (in_cons z 0 [] k))
  where
    go : (z : ℕ) → (z ≡ 0) ⊎ In z [] → In z (boxes_of h ds)
    go z (inl e) = rw (e, ← div-eq_of_lt (small c i)) (boxes_of_in h c ds i)
    go z (inr k) = absurd (not_in_nil z k)

-- no level is written
pub descent_start : (h : ℕ) (ds bitmap : List ℕ) → 1 ≤ length ds → Rising ds → ((z : ℕ) → In z ds → z < 4 ^ h) → bitmap ≡ replicate (length bitmap) 0 → Descent h ds h 0 bitmap
descent_start h [] bitmap some r small e = absurd (omega arith)
descent_start h (d ∷ ds) bitmap some r small e = record {
  high = omega arith;
  done = [];
  parts = rw (root_box h (d ∷ ds) d (has_here d ds) r small);
  put = written_none bitmap (e ∙ sym (fit_none (length bitmap)));
  few = omega arith;
}

-- one more
pub descent_step : (h : ℕ) (ds : List ℕ) (s g next : ℕ) (bitmap bitmap' : List ℕ) → (d : Descent h ds s g bitmap) → 0 < s → length ds ≤ max_joints
    → ((gs : List ℕ) → Written gs g bitmap → Written (gs ++ level_of (s - 1) ds) next bitmap') → next ≤ g + length ds → Descent h ds (s - 1) next bitmap'
unfolding groups_from level_of max_joints
descent_step h ds zero g next bitmap bitmap' d pos few w le = absurd (omega arith)
descent_step h ds (suc s) g next bitmap bitmap' d pos few w le =
    let down : suc s - 1 ≡ s = omega arith in
    rw down (record {
      high = omega (arith, d.high);
      done = d.done ++ map (group_of (boxes_of s ds)) (boxes_of (suc s) ds);
      parts = d.parts ∙ sym (append_assoc d.done _ _);
      put = rw down at (w d.done d.put);
      few = omega (arith, d.few, d.high);
    })

-- all of them
pub descent_end : (h : ℕ) (ds : List ℕ) (s g : ℕ) (bitmap : List ℕ) → Descent h ds s g bitmap → s ≤ 0 → Written (groups_from h (0 ∷ []) ds) g bitmap
unfolding groups_from
descent_end h ds zero g bitmap d le = rw (d.parts, append-nil) d.put
descent_end h ds (suc s) g bitmap d le = absurd (omega arith)

-- no cell: below the whole board's group there is none
none_below : (s : ℕ) → groups_from s [] [] ≡ []
unfolding groups_from boxes_of distinct
none_below zero = refl
none_below (suc s) = none_below s

-- and the whole board's is zero
one_group : (s : ℕ) → groups_from (suc s) (0 ∷ []) [] ≡ 0 ∷ []
unfolding groups_from boxes_of distinct group_of has
one_group s = ap (λ (gs : List ℕ). 0 ∷ gs) (none_below s)

-- written out, it is zeros
blank : (n : ℕ) → fit n (pack (0 ∷ [])) ≡ replicate n 0
unfolding fit pack
blank zero = refl
blank (suc n) = ap (λ (l : List ℕ). 0 ∷ l) (fit_none n)

-- so that an empty bitmap is the bitmap of no cells
pub descent_none : (h : ℕ) (ds bitmap : List ℕ) → length ds ≡ 0 → 1 ≤ h → bitmap ≡ replicate (length bitmap) 0 → Written (groups_from h (0 ∷ []) ds) 1 bitmap
descent_none h (d ∷ ds) bitmap none low e = absurd (omega arith)
descent_none zero [] bitmap none low e = absurd (omega arith)
descent_none (suc s) [] bitmap none low e =
    rw (one_group s) (record { next = refl; small = below_one 16 0 (omega arith) (omega arith); has = e ∙ sym (blank (length bitmap)) })

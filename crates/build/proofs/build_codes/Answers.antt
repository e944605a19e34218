-- Each way out is an end of Building, from what tidying, clearing and writing ensure.
use Prim.Native.Nat.{ℕ, ◌+◌, ◌/◌}
use mathlib.Core.Path.{◌≡◌, refl, sym, ap, ◌∙◌}
use native.Mathlib.Omega.{arith}
use lib.ListN.{replicate}
use Rattle.board.specs.Limits.{max_height, max_joints}
use Rattle.build.proofs.Building.{Tidy, tidy_long, tidy_rising, tidy_small, end_many, end_room, end_served}
use Rattle.build.proofs.build_codes.Goals as goal

pub returns-then-joints : goal.returns-then-joints
unfolding max_height max_joints
returns-then-joints c =
    let p = c.requires in
    let t : Tidy _ _ _ _ _ = record { low = p.0; small = p.3; left = c.tidy-joints.ensures } in
    end_many t _ _ _ _ refl c.if-joints.true (c.clear-then-joints.ensures ∙ ap (λ (k : ℕ). replicate k 0) c.tidy-joints.auto.list) c.clear.ensures

pub write_levels-requires : goal.write_levels-requires
unfolding max_height max_joints
write_levels-requires c =
    let p = c.requires in
    let t : Tidy _ _ _ _ _ = record { low = p.0; small = p.3; left = c.tidy-joints.ensures } in
    (p.0, p.1, rw (tidy_long t) c.if-joints.false, tidy_rising t, tidy_small t, c.clear.ensures ∙ ap (λ (k : ℕ). replicate k 0) (sym c.clear.auto.list))

pub returns-then-bitmap-length : goal.returns-then-bitmap-length
unfolding max_height max_joints
returns-then-bitmap-length c =
    let p = c.requires in
    let t : Tidy _ _ _ _ _ = record { low = p.0; small = p.3; left = c.tidy-joints.ensures } in
    let w = c.write_levels in
    let long = w.auto.bitmap ∙ c.clear.auto.list in
    end_room t _ _ c.if-joints.false w.ensures.0 _ _ _ _ refl (omega (arith, long, c.number-boxes.ensures, c.div_ceil-length.ensures, c.if-bitmap-length.true))
    (c.clear-2.ensures ∙ ap (λ (k : ℕ). replicate k 0) c.tidy-joints.auto.list) (c.clear-then-bitmap-length.ensures ∙ ap (λ (k : ℕ). replicate k 0) long)

pub returns : goal.returns
unfolding max_height max_joints
returns c =
    let p = c.requires in
    let t : Tidy _ _ _ _ _ = record { low = p.0; small = p.3; left = c.tidy-joints.ensures } in
    let w = c.write_levels in
    let long = w.auto.bitmap ∙ c.clear.auto.list in
    let due : c.div_ceil-length.result ≡ (w.result.0 + 1) / 2 = omega (arith, c.number-boxes.ensures, c.div_ceil-length.ensures) in
    rw (due, c.number-boxes.ensures) (end_served t _ _ c.if-joints.false w.ensures.0 _ _ long (omega (arith, long, due, c.if-bitmap-length.false)) (c.clear-2.ensures ∙ ap (λ (k : ℕ). replicate k 0) c.tidy-joints.auto.list))

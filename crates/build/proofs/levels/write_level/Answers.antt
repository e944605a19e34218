use Prim.Native.Nat.{ℕ, ◌+◌, ◌/◌, ◌^◌, ◌<◌}
use mathlib.Core.Path.{◌≡◌, ap, ◌∙◌}
use native.Mathlib.Omega.{arith}
use lib.ListN.{length, get_or}
use Rattle.build.proofs.Turn.{behind, behind_long, turn_start, turn_bits, turn_byte, turn_same, turn_quarter, turn_box, turn_end}
use Rattle.build.proofs.levels.write_level.Goals as goal
use Rattle.build.proofs.levels.write_level.Goals.{then-next-child, else-next-child+then-next-child-2, else-next-child+else-next-child-2}

pub loop-code-init : goal.loop-code-init
loop-code-init c = rw (c.worth_of-bits.ensures.0, c.box_of-child.ensures) (turn_start _ _ _ _ c.requires.2)

pub put-requires : goal.put-requires
put-requires c = let t = c.loop-code.invariant in ((turn_bits t c.requires.0).0, turn_byte t c.requires.0)

pub overflow_add-bits : goal.overflow_add-bits
overflow_add-bits c = let t = c.loop-code.invariant in omega (arith, (turn_bits t c.requires.0).0, c.worth_of-bits-then-next-child-2.ensures.1)

pub loop-code-preserved : goal.loop-code-preserved
loop-code-preserved c =
    let t = c.loop-code.invariant in
    let a = c.args in
    let i = c.loop-code.code-index in
    let next : c.box_of-next.result ≡ get_or a.codes.now (i + 1) 0 / 4 ^ a.s = c.box_of-next.ensures ∙ ap (λ (x : ℕ). x / 4 ^ a.s) (behind a.codes.now i) in
    let more : i + 1 < length a.codes.now = omega (arith, c.loop-code-test.true, behind_long a.codes.now) in
    elim c.if-next-child.branch [
      | then-next-child w ↦ rw (w.g-is, w.child-is, w.bits-is, w.bitmap-is, w.put.ensures, w.after-g.ensures, w.worth_of-bits-then-next-child.ensures.0, next) (turn_box t c.requires.3 more (rw next at w.if-next-child.true))
      | else-next-child+then-next-child-2 w ↦ rw (w.g-is, w.child-is, w.bits-is, w.bitmap-is, w.worth_of-bits-then-next-child-2.ensures.0, next) (turn_quarter t c.requires.3 more (rw next at w.if-next-child-2.true) (rw next at w.if-next-child.false))
      | else-next-child+else-next-child-2 w ↦ rw (w.g-is, w.child-is, w.bits-is, w.bitmap-is, next) (turn_same t c.requires.3 more (rw next at w.if-next-child-2.false))
    ]

pub put-requires-2 : goal.put-requires-2
put-requires-2 c = let t = c.loop-code.invariant in ((turn_bits t c.requires.0).0, turn_byte t c.requires.0)

pub returns : goal.returns
returns c =
    let t = c.loop-code.invariant in
    ((λ gs w. rw (c.put-2.ensures, c.after.ensures) (turn_end t (omega (arith, behind_long c.args.codes.now)) gs w)), omega (arith, (turn_bits t c.requires.0).1, t.high, c.after.ensures))

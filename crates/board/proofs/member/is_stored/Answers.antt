use Prim.Native.Nat.{◌+◌, ◌*◌, ◌-◌, ◌^◌, ◌<◌}
use mathlib.Core.Path.{◌≡◌, sym, ◌∙◌}
use native.Mathlib.Omega.{arith}
use lib.ListN.{length}
use Rattle.board.proofs.WayDown.{digit, digit_small}
use Rattle.board.proofs.Asking.{ready_height}
use Rattle.board.proofs.Down.{digit_is, down_start, stands_within, down_step, down_zero, down_end}
use Rattle.board.proofs.member.is_stored.Goals as goal

pub loop-left-init : goal.loop-left-init
loop-left-init c =
    let s = c in
    (omega arith, rw c.root-group.ensures (down_start s.args.board.height s.args.board.bytes.now s.args.row s.args.column s.requires.1 s.requires.2))

pub quarter_of-requires : goal.quarter_of-requires
quarter_of-requires c = omega (arith, ready_height _ _ _ c.requires.0, c.loop-left.invariant.0)

pub bit-p-requires : goal.bit-p-requires
bit-p-requires c =
    let within : (c.loop-left.group.0 < 2 * length c.args.board.bytes.now) × (c.loop-left.group.0 < 2 ^ 24) = let s = c in let w = c.loop-left in stands_within s.args.board.height _ s.args.board.directory.now (s.args.board.height - w.left) w.group.0 _ s.requires.0 w.invariant.1 (omega (arith, w.invariant.0, c.loop-left-test.true)) in
    let small : c.quarter_of.result < 4 = let a = c.args in omega (arith, c.quarter_of.ensures, digit_is (c.loop-left.left - 1) a.row a.column, digit_small (c.loop-left.left - 1) a.row a.column) in
    omega (arith, within, small)

pub returns-then-bit_at-eq0 : goal.returns-then-bit_at-eq0
returns-then-bit_at-eq0 c =
    let bit_is : c.bit-p.result.0 ≡ 4 * c.loop-left.group.0 + digit (c.loop-left.left - 1) c.args.row c.args.column = let a = c.args in omega (arith, c.bit-p.ensures, c.quarter_of.ensures, digit_is (c.loop-left.left - 1) a.row a.column) in
    let s = c in
    let w = c.loop-left in
    down_zero s.args.board.height s.args.board.bytes.now w.left w.group.0 s.args.row s.args.column s.requires.1 s.requires.2 c.loop-left-test.true w.invariant.0 w.invariant.1
    (rw bit_is at (sym c.bit_at.ensures ∙ c.if-bit_at-eq0.true))

pub child_of-group-requires : goal.child_of-group-requires
child_of-group-requires c =
    let within : (c.loop-left.group.0 < 2 * length c.args.board.bytes.now) × (c.loop-left.group.0 < 2 ^ 24) = let s = c in let w = c.loop-left in stands_within s.args.board.height _ s.args.board.directory.now (s.args.board.height - w.left) w.group.0 _ s.requires.0 w.invariant.1 (omega (arith, w.invariant.0, c.loop-left-test.true)) in
    let small : c.quarter_of.result < 4 = let a = c.args in omega (arith, c.quarter_of.ensures, digit_is (c.loop-left.left - 1) a.row a.column, digit_small (c.loop-left.left - 1) a.row a.column) in
    omega (arith, c.bit-p.ensures, within, small)

pub loop-left-preserved : goal.loop-left-preserved
loop-left-preserved c =
    let bit_is : c.bit-p.result.0 ≡ 4 * c.loop-left.group.0 + digit (c.loop-left.left - 1) c.args.row c.args.column = let a = c.args in omega (arith, c.bit-p.ensures, c.quarter_of.ensures, digit_is (c.loop-left.left - 1) a.row a.column) in
    let a = c.args in
    let w = c.loop-left in
    let on = rw bit_is at c.child_of-group.ensures.0 in (
      omega (arith, w.invariant.0),
      rw on (down_step a.board.height a.board.bytes.now w.left w.group.0 a.row a.column c.loop-left-test.true w.invariant.0 w.invariant.1
          (λ z. c.if-bit_at-eq0.false (c.bit_at.ensures ∙ rw bit_is z))),
    )

pub returns : goal.returns
returns c =
    let s = c in
    let w = c.loop-left in
    down_end s.args.board.height s.args.board.bytes.now w.left w.group.0 s.args.row s.args.column s.requires.1 s.requires.2 c.loop-left-test.false w.invariant.1

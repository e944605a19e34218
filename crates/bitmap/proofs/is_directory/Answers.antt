use mathlib.Core.Path.{refl, sym, ◌∙◌}
use native.Mathlib.Omega.{arith}
use Rattle.bitmap.specs.Bits.{ones_before}
use Rattle.bitmap.proofs.Directory.{block_begins, counted_on, filled_test, filled_wrong, filled_right, length_wrong}
use Rattle.bitmap.proofs.is_directory.Goals as goal

pub returns-then-directory-blocks_of : goal.returns-then-directory-blocks_of
returns-then-directory-blocks_of c =
    let s = c in
    length_wrong s.args.bytes.now s.args.directory.now (λ e. c.if-directory-blocks_of.true (e ∙ sym c.blocks_of.ensures))

pub loop-block-init : goal.loop-block-init
loop-block-init c = (((λ h. unfold ones_before in refl), omega arith), λ k h. absurd (omega arith))

pub returns-then-from-ones : goal.returns-then-from-ones
returns-then-from-ones c =
    let w = c.loop-block in
    let a = c.args in
    let begins = block_begins a.bytes.now w.block (omega (arith, c.blocks_of.ensures)) in
    filled_wrong a.bytes.now a.directory.now w.block (omega (arith, c.blocks_of.ensures)) (λ e. c.if-from-ones.true (omega (arith, c.from.ensures, e, w.invariant.0.0 (omega arith))))

pub ones_in_block-ones-requires : goal.ones_in_block-ones-requires
ones_in_block-ones-requires c = block_begins c.args.bytes.now c.loop-block.block (omega (arith, c.blocks_of.ensures))

pub loop-block-preserved : goal.loop-block-preserved
loop-block-preserved c =
    let w = c.loop-block in
    let a = c.args in
    let begins = block_begins a.bytes.now w.block (omega (arith, c.blocks_of.ensures)) in
    let e = c.ones_in_block-ones.ensures in
    (counted_on a.bytes.now w.block w.ones c.ones_in_block-ones.result w.invariant.0 begins e.0 e.1, filled_test a.bytes.now a.directory.now w.block w.invariant.1 (omega (arith, c.from.ensures, w.invariant.0.0 (omega arith))))

pub returns : goal.returns
returns c =
    let w = c.loop-block in
    let a = c.args in
    let just = c.if-directory-blocks_of.false ∙ c.blocks_of.ensures in
    filled_right a.bytes.now a.directory.now w.block w.invariant.1 (omega (arith, just)) just

use mathlib.Core.Path.{refl}
use native.Mathlib.Omega.{arith}
use Rattle.bitmap.specs.Bits.{ones_before}
use Rattle.bitmap.proofs.Directory.{block_begins, counted_on, filled_store, filled_all}
use Rattle.bitmap.proofs.fill_directory.Goals as goal

pub loop-block-init : goal.loop-block-init
loop-block-init c = (((λ h. unfold ones_before in refl), omega arith), λ k h. absurd (omega arith))

pub ones_in_block-ones-requires : goal.ones_in_block-ones-requires
ones_in_block-ones-requires c = block_begins c.args.bytes.now c.loop-block.block (omega arith)

pub loop-block-preserved : goal.loop-block-preserved
loop-block-preserved c =
    let w = c.loop-block in
    let bytes = c.args.bytes.now in
    let begins = block_begins bytes w.block (omega arith) in
    let e = c.ones_in_block-ones.ensures in
    (counted_on bytes w.block w.ones c.ones_in_block-ones.result w.invariant.0 begins e.0 e.1, filled_store bytes w.directory w.block w.ones w.invariant.1 (omega arith) (w.invariant.0.0 (omega arith)))

pub returns : goal.returns
returns c =
    let w = c.loop-block in
    let s = c in
    filled_all s.args.bytes.now w.directory w.block w.invariant.1 (omega arith) (omega arith)

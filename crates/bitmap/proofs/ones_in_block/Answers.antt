-- A block is eight words.
use Prim.Native.Nat.{◌+◌, ◌*◌}
use mathlib.Core.Path.{◌≡◌}
use native.Mathlib.Omega.{arith}
use lib.ListN.{length}
use Rattle.bitmap.specs.Directory.{block_bits}
use Rattle.bitmap.proofs.Ones.{ones_before_mono}
use Rattle.bitmap.proofs.ones_in_block.Goals as goal

pub returns-then-bytes-at-lt-BLOCK : goal.returns-then-bytes-at-lt-BLOCK
returns-then-bytes-at-lt-BLOCK c =
    let a = c.args in
    let mono = ones_before_mono a.bytes.now (block_bits * a.block) (8 * length a.bytes.now) (omega arith) in
    (λ h. absurd (omega arith), omega arith, omega arith)

pub returns : goal.returns
returns c =
    let a = c.args in
    let at : 8 * (64 * a.block) ≡ block_bits * a.block = omega arith in
    let on : 8 * (64 * a.block + 8 * 8) ≡ block_bits * (a.block + 1) = omega arith in
    let sum = rw (at, on) at c.ones_in_words.ensures.0 in
    let mono = ones_before_mono a.bytes.now (block_bits * (a.block + 1)) (8 * length a.bytes.now) (omega arith) in
    (λ h. sum, omega arith, omega arith)

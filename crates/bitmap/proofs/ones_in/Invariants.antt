-- The words first; the loop keeps that the ones so far are those from the first byte on.
use Prim.Native.Nat.{◌+◌, ◌*◌, ◌≤◌}
use mathlib.Core.Path.{◌≡◌}
use Rattle.bitmap.specs.Bits.{ones_before}
use Rattle.bitmap.proofs.ones_in.Given as goal

abbrev pub invariant-loop-byte : goal.invariant-loop-byte
invariant-loop-byte l =
    let at = l.from + 8 * l.words + l.byte-index in
    (ones_before l.bytes (8 * l.from) + l.ones ≡ ones_before l.bytes (8 * at)) × (l.ones + 8 * l.from ≤ 8 * at)

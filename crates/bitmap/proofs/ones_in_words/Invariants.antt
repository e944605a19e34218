-- The loop keeps that the ones so far are those of the words passed.
use Prim.Native.Nat.{◌+◌, ◌*◌, ◌≤◌}
use mathlib.Core.Path.{◌≡◌}
use Rattle.bitmap.specs.Bits.{ones_before}
use Rattle.bitmap.proofs.ones_in_words.Given as goal

abbrev pub invariant-loop-i : goal.invariant-loop-i
invariant-loop-i l = (ones_before l.bytes (8 * l.from) + l.ones ≡ ones_before l.bytes (8 * (l.from + 8 * l.i))) × (l.ones ≤ 64 * l.i)

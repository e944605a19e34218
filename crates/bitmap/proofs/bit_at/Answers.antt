-- A shift is a division by a power of two.
use Rattle.bitmap.specs.Bits.{bit_at}
use Rattle.bitmap.proofs.bit_at.Goals as goal

pub returns : goal.returns
unfolding bit_at
returns c = rw (← c.byte_at-byte.ensures.0)

-- A shift is a division by a power of two.
use borrow.Author.Rules.{rules}
use Rattle.bitmap.specs.Bits.{bit_of}
use Rattle.bitmap.proofs.bit_in.Goals as goal

pub returns : goal.returns
unfolding bit_of
returns c = search rules

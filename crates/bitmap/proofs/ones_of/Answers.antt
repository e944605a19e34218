-- The machine's count is that of the four bits.
use Rattle.bitmap.proofs.Bytes.{ones_of_group}
use Rattle.bitmap.proofs.ones_of.Goals as goal

pub returns : goal.returns
returns c = ones_of_group c.args.bits c.requires

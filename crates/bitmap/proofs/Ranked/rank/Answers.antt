-- The ones before the bit's byte, and those of the byte's bits up to and with it.
use mathlib.Core.Path.{ap, ◌∙◌}
use native.Mathlib.Omega.{arith}
use Rattle.bitmap.specs.Bits.{ones_before, rank}
use Rattle.bitmap.proofs.Ranked.rank.Goals as goal

pub returns : goal.returns
unfolding rank
returns c =
    let e = c.ones_up_to.ensures in
    (e.0 ∙ ap (ones_before c.args.self.bytes.now) (omega arith), e.1)

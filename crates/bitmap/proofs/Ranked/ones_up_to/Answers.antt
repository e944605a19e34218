-- The ones before the byte, and those of its first bits.
use native.Mathlib.Omega.{arith}
use Rattle.bitmap.proofs.Bytes.{part_step}
use Rattle.bitmap.proofs.Ranked.ones_up_to.Goals as goal

pub returns : goal.returns
returns c =
    let s = c in
    let e = c.byte_at.ensures in
    omega (arith, c.ones_before_byte.ensures, part_step s.args.self.bytes.now s.args.byte s.args.bits _ e.0 e.1 s.requires.1)

use Prim.Native.Nat.{◌+◌, ◌*◌, ◌/◌, ◌-◌, ◌<◌}
use mathlib.Core.Path.{◌≡◌}
use native.Mathlib.Omega.{arith}
use Rattle.std.proofs.Common.{drop, get_or-take, get_or-drop}
use Rattle.bitmap.proofs.Bytes.{byte_step}
use Rattle.bitmap.proofs.ones_in.Goals as goal

pub loop-byte-preserved : goal.loop-byte-preserved
loop-byte-preserved c =
    let g = c.args in
    let i = c.loop-byte.byte-index in
    let from = g.from + 8 * ((g.to - g.from) / 8) in
    let inside : i < g.to - from = omega arith in
    let next : from + (i + 1) ≡ from + i + 1 = omega arith in
    rw (next, get_or-take (g.to - from) (drop from g.bytes.now) i 0 inside, get_or-drop from g.bytes.now i 0) (omega (arith, byte_step g.bytes.now (from + i) (omega (arith, c.type_inv.bytes (from + i)))))

-- The block's entry, and the ones from there on.
use native.Mathlib.Omega.{arith}
use Rattle.bitmap.proofs.Directory.{block_entry, block_there}
use Rattle.bitmap.proofs.Ranked.ones_before_byte.Goals as goal

pub bounds-self-block : goal.bounds-self-block
bounds-self-block c =
    let s = c in
    block_there s.args.self.bytes.now s.args.self.directory.now s.args.byte s.args.self.own s.requires

pub returns : goal.returns
returns c =
    let s = c in
    let entry = block_entry s.args.self.bytes.now s.args.self.directory.now s.args.byte s.args.self.own s.requires in
    omega (arith, entry, c.ones_in.ensures, c.from.ensures)

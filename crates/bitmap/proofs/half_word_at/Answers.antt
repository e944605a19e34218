-- Four bytes, each times its weight.
use native.Mathlib.Omega.{arith}
use borrow.Author.Rules.{rules}
use Rattle.bitmap.proofs.Words.{word_four}
use Rattle.bitmap.proofs.half_word_at.Goals as goal

pub returns : goal.returns
returns c =
    let a = c.args in
    (omega (arith, word_four a.bytes.now a.at, c.from_le_bytes.ensures, c.from.ensures), omega arith, λ i. search rules)

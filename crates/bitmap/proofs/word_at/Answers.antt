-- Two halves.
use native.Mathlib.Omega.{arith}
use Rattle.bitmap.proofs.Words.{word_eight}
use Rattle.bitmap.proofs.word_at.Goals as goal

pub returns : goal.returns
returns c =
    let a = c.args in
    (omega (arith, word_eight a.bytes.now a.at), c.half_word_at-2.ensures.2)

use native.Mathlib.Omega.{arith}
use Rattle.bitmap.proofs.Words.{word_step}
use Rattle.bitmap.proofs.ones_in_words.Goals as goal

pub loop-i-preserved : goal.loop-i-preserved
loop-i-preserved c =
    let w = c.loop-i in
    let e = c.word_at.ensures in
    let a = c.args in
    omega (arith, word_step a.bytes.now a.from w.i _ e.0 e.1)

use native.Mathlib.Omega.{arith}
use lib.Seq.{length-take-le}
use Rattle.text.proofs.Putting.{put_letter, put-length}
use Rattle.text.proofs.page.put_word.Goals as goal

pub bounds-out-end : goal.bounds-out-end
bounds-out-end c = let l = c.loop-letter in omega (arith, l.invariant.place, put-length l.invariant, length-take-le l.letter-index c.args.word.now (omega arith))

pub overflow_add-end : goal.overflow_add-end
overflow_add-end c = let l = c.loop-letter in omega (arith, l.invariant.place, put-length l.invariant, length-take-le l.letter-index c.args.word.now (omega arith))

pub loop-letter-preserved : goal.loop-letter-preserved
loop-letter-preserved c =
    let l = c.loop-letter in
    let e = length-take-le l.letter-index c.args.word.now (omega arith) in
    put_letter c.args.word.now l.letter-index (omega arith) (omega (arith, l.invariant.place, put-length l.invariant, e)) l.invariant

pub shape_of-out : goal.shape_of-out
shape_of-out c = put-length c.loop-letter.invariant

use native.Mathlib.Omega.{arith}
use lib.ListN.{length-set}
use Rattle.text.specs.Text.{space, field}
use Rattle.text.proofs.Putting.{put_one, put_then, put-length}
use Rattle.text.proofs.page.put_field.Goals as goal

pub bounds-out-at : goal.bounds-out-at
unfolding field
bounds-out-at c = omega arith

pub put_decimal-requires : goal.put_decimal-requires
unfolding field
put_decimal-requires c =
    let g = c.args in
    omega (arith, length-set g.out.now g.at space)

pub shape_of-out : goal.shape_of-out
shape_of-out c =
    let g = c.args in
    omega (arith, put-length c.put_decimal.ensures, length-set g.out.now g.at space)

pub returns : goal.returns
unfolding field
returns c =
    let g = c.args in
    put_then (put_one space g.at g.out.now (omega arith)) c.put_decimal.ensures

use mathlib.Core.List.{flat_map}
use native.Mathlib.Omega.{arith}
use Rattle.text.specs.Text.{field}
use Rattle.text.proofs.Putting.{put_none, put_next, part_fits, put-length}
use Rattle.text.proofs.page.put_fields.Goals as goal

pub loop-n-init : goal.loop-n-init
unfolding flat_map
loop-n-init c = put_none _ _ (omega arith)

pub put_field-end-requires : goal.put_field-end-requires
put_field-end-requires c = let l = c.loop-n in omega (arith, l.invariant.place, put-length l.invariant, part_fits field c.args.numbers.now l.n-index 0 (omega arith))

pub loop-n-preserved : goal.loop-n-preserved
loop-n-preserved c = let l = c.loop-n in put_next field c.args.numbers.now l.n-index 0 (omega arith) l.invariant c.put_field-end.ensures

pub shape_of-out : goal.shape_of-out
shape_of-out c = put-length c.loop-n.invariant

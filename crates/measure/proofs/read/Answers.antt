-- A text that passes at each place is a measure, and has this number.
use mathlib.Core.Path.{sym}
use native.Mathlib.Omega.{arith}
use Rattle.measure.proofs.Places.{measure_read}
use Rattle.measure.proofs.read.Goals as goal

pub returns : goal.returns
returns c = sym (measure_read c.args.text.now c.in_ok-digit.field-0 c.in_ok-digit-2.field-0 c.in_ok-digit-3.field-0 c.in_ok-half.field-0 (omega (arith, c.in_ok-digit.ensures, c.in_ok-digit-2.ensures, c.in_ok-digit-3.ensures, c.in_ok-half.ensures)))

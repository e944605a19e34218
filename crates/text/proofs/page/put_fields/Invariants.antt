use mathlib.Core.List.{flat_map}
use lib.ListN.{take}
use Rattle.text.specs.Text.{field, Put}
use Rattle.text.proofs.page.put_fields.Given as goal

abbrev pub invariant-loop-n : goal.invariant-loop-n
invariant-loop-n l = Put (flat_map field (take l.n-index l.numbers)) l.at l.initial.out l.end l.out

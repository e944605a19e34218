use mathlib.Core.List.{map, flat_map}
use lib.ListN.{take}
use Rattle.seek.specs.Step.{handed_in}
use Rattle.text.specs.Text.{bytes_of}
use Rattle.text.specs.Page.{Puts}
use Rattle.lines.specs.Report.{key_line}
use Rattle.lines.proofs.question.put_keys.Given as goal

abbrev pub invariant-loop-i : goal.invariant-loop-i
invariant-loop-i l = Puts (flat_map bytes_of (take l.i (map key_line (handed_in l.n l.keys)))) l.initial.page l.page

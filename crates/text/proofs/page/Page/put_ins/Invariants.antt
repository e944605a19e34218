use mathlib.Core.List.{flat_map}
use lib.ListN.{length, take}
use Rattle.text.specs.Text.{bytes_of}
use Rattle.text.specs.Lines.{in_lines}
use Rattle.text.specs.Page.{Puts}
use Rattle.text.proofs.page.Page.put_ins.Given as goal

abbrev pub invariant-loop-row : goal.invariant-loop-row
invariant-loop-row l = Puts (flat_map bytes_of (take (length l.yielded) (in_lines l.rows l.columns))) l.initial.self l.self

-- The codes of the first joints stand in the places that are filled, and behind them what stood there.
use Rattle.std.proofs.Common.{◌≡◌, ◌++◌, drop}
use Rattle.sheet.specs.Codes.{codes_at}
use Rattle.sheet.proofs.codes.fill.Given as goal

abbrev pub invariant-loop-i : goal.invariant-loop-i
invariant-loop-i l = l.code-items ≡ codes_at l.height l.sheet l.i ++ drop l.i l.initial.code-items

-- The loop keeps `Descent`: the levels above are written, and what is left to write are the groups from here down.
use mathlib.Core.Path.{◌≡◌}
use lib.ListN.{length}
use Rattle.build.proofs.Descent.{Descent}
use Rattle.build.proofs.levels.write_levels.Given as goal

abbrev pub invariant-loop-s : goal.invariant-loop-s
invariant-loop-s l = Descent l.height l.codes l.s l.g.0 l.bitmap × (length l.bitmap ≡ length l.initial.bitmap)

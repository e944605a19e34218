-- The loop: what is left to do from a place gives the whole answer, and each step goes farther on.
use Prim.Native.Nat.{◌-◌}
use lib.ListN.{length}
use Rattle.sheet.proofs.Scanning.{Scanning}
use Rattle.sheet.proofs.scan.scan.Given as goal

abbrev pub invariant-loop-place : goal.invariant-loop-place
invariant-loop-place l = Scanning l.sheet l.place

abbrev pub decreases-loop-place : goal.decreases-loop-place
decreases-loop-place l = length l.sheet - l.place.at

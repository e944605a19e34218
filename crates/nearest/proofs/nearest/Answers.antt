-- What was asked says which keys stand at the end of the keys; they are delivered, and the keys are cleared.
use mathlib.Core.Path.{ap, ◌∙◌}
use mathlib.Core.List.{List}
use Prim.Native.Nat.{ℕ}
use lib.ListN.{length, replicate}
use mir.Facts.{to_z-of_z}
use Rattle.seek.specs.Step.{handed_in}
use Rattle.nearest.specs.Answers.{filled}
use Rattle.nearest.proofs.Handing.{asked_shows}
use Rattle.nearest.proofs.nearest.Goals as goal

pub deliver-requires : goal.deliver-requires
deliver-requires c =
    let s = asked_shows c.asked-found.ensures in
    (rw c.joints_of.ensures s.handed, rw c.joints_of.ensures s.fits)

pub returns : goal.returns
returns c =
    let asked = rw (to_z-of_z c.ranges.row, to_z-of_z c.ranges.column) at c.asked-found.ensures in
    let s = asked_shows asked in
    record {
      number = asked.number;
      answers = c.deliver.ensures ∙ ap (λ (l : List ℕ). filled l (length c.args.answers.now)) (ap (λ (n : ℕ). handed_in n c.asked-found.new.keys) c.joints_of.ensures ∙ s.found);
      trail = asked.trail_left;
      keys = c.clear.ensures ∙ ap (λ (n : ℕ). replicate n 0) s.keys_long;
      corners = asked.corners_left;
    }

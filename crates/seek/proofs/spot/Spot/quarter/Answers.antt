-- `seek::spot::Spot::quarter` meets its contract. Assumes nothing.
use mathlib.Core.Path.{refl}
use Rattle.seek.specs.Spots.{box_of}
use Rattle.seek.proofs.Quarter.{quarter_fits, quarter_corner}
use Rattle.seek.proofs.Lying.{corner_box, corner_begins}
use Rattle.seek.proofs.spot.Spot.quarter.Goals as goal

pub invariant_of-result : goal.invariant_of-result
invariant_of-result c = let s = c.args.self in
    record {
      fits = quarter_fits c.requires.0 c.requires.1 c.side-half.ensures c.shifted.ensures c.shifted-2.ensures s.fits;
      begins = corner_begins (quarter_corner c.requires.0 c.requires.1 c.side-half.ensures c.shifted.ensures c.shifted-2.ensures (box_of s) s.begins);
    }

pub returns : goal.returns
returns c = let s = c.args.self in
    (refl, refl, corner_box (quarter_corner c.requires.0 c.requires.1 c.side-half.ensures c.shifted.ensures c.shifted-2.ensures (box_of s) s.begins))

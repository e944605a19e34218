-- `seek::spot::Spot::whole` meets its contract. Assumes nothing.
use Rattle.seek.proofs.Beginning.{whole_fits, whole_corner}
use Rattle.seek.proofs.Lying.{corner_begins}
use Rattle.seek.proofs.spot.Spot.whole.Goals as goal

pub invariant_of-result : goal.invariant_of-result
invariant_of-result c = record { fits = whole_fits c.requires; begins = corner_begins (whole_corner c.args.height) }

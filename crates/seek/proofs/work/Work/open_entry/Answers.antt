-- `seek::work::Work::open_entry` meets its contract. Assumes nothing.
use Rattle.seek.proofs.Entering.{entry_fits, entry_begins, entry_kids}
use Rattle.seek.proofs.work.Work.open_entry.Goals as goal

pub invariant_of-s : goal.invariant_of-s
invariant_of-s c = let o = c.requires.0 in
    record {
      fits = entry_fits o c.group_of.ensures c.levels_of.ensures c.top_of.ensures c.left_of.ensures;
      begins = entry_begins o c.group_of.ensures c.levels_of.ensures c.top_of.ensures c.left_of.ensures;
    }

pub returns-clause-opened : goal.returns-clause-opened
returns-clause-opened c = rw (entry_kids c.requires.0 c.group_of.ensures c.levels_of.ensures c.top_of.ensures c.left_of.ensures) at c.open_box.ensures.opened

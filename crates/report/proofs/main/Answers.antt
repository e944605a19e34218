use Rattle.board.specs.Limits.{max_joints}
use borrow.Author.Rules.{rules}
use Rattle.report.proofs.main.Goals as goal

pub print_report-requires : goal.print_report-requires
unfolding max_joints
print_report-requires c = search rules

pub invariant_of-lists : goal.invariant_of-lists
unfolding max_joints
invariant_of-lists c = record { few = search rules; short = search rules }

-- `nearest::ask::searched` meets its contract. Assumes nothing.
use mathlib.Core.Path.{ap}
use lib.ListN.{length}
use Rattle.refusal.specs.Answer.{◌then◌}
use Rattle.seek.specs.Told.{searched_of}
use Rattle.nearest.specs.Promise.{pass_of}
use Rattle.seek.proofs.Telling.{told_refused}
use Rattle.nearest.proofs.ask.searched.Goals as goal

pub returns-in-Err : goal.returns-in-Err
returns-in-Err c =
    let a = c.args in
    let search = searched_of a.board.height a.board.bytes.now a.p a.k (length a.trail.now) in
    told_refused (pass_of a.passed then search) (ap (λ passed. pass_of passed then search) c.in-Err.is) c.clear.ensures c.clear-in-Err.ensures c.clear-in-Err-2.ensures

-- `nearest::ask::asked` meets its contract. Assumes nothing.
use mathlib.Core.Path.{sym, ◌∙◌}
use Rattle.nearest.specs.Asked.{rooms_of}
use Rattle.nearest.proofs.Asks.{may_ask, nearest_searched}
use Rattle.nearest.proofs.Telling.{told_asked}
use Rattle.nearest.proofs.ask.asked.Goals as goal

pub searched-requires : goal.searched-requires
searched-requires c = λ e.
    let a = c.args in
    let b = a.board in
    let m = may_ask b.height b.bytes.now b.directory.now a.p a.k (rooms_of a.answers a.keys.now a.corners.now a.trail.now) (sym c.may_ask-passed.ensures ∙ e) in
    record { named = m.named; ready = m.ready; some = m.some; keys_room = m.keys; corners_room = m.corners }

pub returns : goal.returns
returns c =
    let a = c.args in
    let b = a.board in
    let rooms = rooms_of a.answers a.keys.now a.corners.now a.trail.now in
    told_asked (rw (c.may_ask-passed.ensures, ← nearest_searched b.height b.bytes.now b.directory.now a.p a.k rooms) at c.searched.ensures)

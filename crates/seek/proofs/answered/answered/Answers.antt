-- `seek::answered::answered` meets its contract. Assumes nothing.
use native.Mathlib.Omega.{arith}
use lib.ListN.{length}
use Rattle.seek.specs.Told.{searched_of}
use Rattle.seek.proofs.Telling.{searched_short, searched_fits, told_refused, told_found}
use Rattle.seek.proofs.answered.answered.Goals as goal

pub returns-then-trail-t : goal.returns-then-trail-t
returns-then-trail-t c =
    let a = c.args in
    let ends = c.find-t.ensures in
    told_refused (searched_of a.board.height a.board.bytes.now a.p a.k (length a.trail.now))
    (searched_short a.board.height a.board.bytes.now a.p a.k (length a.trail.now) (ends.short (rw ends.trail_are at c.if-trail-t.true)))
    (rw ends.keys_are at c.clear-then-trail-t.ensures) (rw ends.corners_are at c.clear.ensures) (rw ends.trail_are at c.clear-then-trail-t-2.ensures)

pub returns : goal.returns
returns c =
    let a = c.args in
    let ends = c.find-t.ensures in
    let fits = rw ends.trail_are at c.if-trail-t.false in
    let reached = ends.enough fits in
    told_found (searched_of a.board.height a.board.bytes.now a.p a.k (length a.trail.now))
    (searched_fits a.board.height a.board.bytes.now a.p a.k (length a.trail.now) (omega (arith, reached.opened)))
    reached ends.trail_are ends.handed_fits ends.keys_are c.clear_before.ensures (rw ends.corners_are at c.clear.ensures)

-- `window::list_pane` meets its contract: the listing of the whole board, or zeros where it has no room. Assumes nothing.
use mathlib.Core.Logic.{inl, inr}
use Rattle.window.proofs.Showing.{whole_is, whole_stood, whole_room, pane_served, pane_refused}
use Rattle.window.proofs.list_pane.Goals as goal
use Rattle.window.proofs.list_pane.Goals.{then-cells-places-via-then-cells-places, then-cells-places-via-else-cells-places+then-cells-places-2}

pub list_box-count-requires : goal.list_box-count-requires
list_box-count-requires c =
    let a = c.args in
    let b = a.board in
    let whole = whole_is b.height c.root.result c.root.ensures in
    let ready = c.requires.0 in
    (whole_stood b.height b.bytes.now b.directory.now _ whole ready, ready.valid.tall, whole_room b.height b.bytes.now b.directory.now _ whole ready)

pub returns-then-cells-places-clause-shown : goal.returns-then-cells-places-clause-shown
returns-then-cells-places-clause-shown c =
    let a = c.args in
    let b = a.board in
    let whole = whole_is b.height c.root.result c.root.ensures in
    let got = c.list_box-count in
    pane_refused a.pane b.height b.bytes.now b.directory.now _ whole got.result a.cells.now.rows.now _ a.cells.now.columns.now _ got.ensures.listed _ _
    c.clear.ensures.cleared.0 c.clear.ensures.cleared.1 (elim c.then-cells-places.branch [
      | then-cells-places-via-then-cells-places w ↦ inr w.if-cells-places.true
      | then-cells-places-via-else-cells-places+then-cells-places-2 w ↦ inl (w.if-cells-places.false, w.if-cells-places-2.true)
    ])

pub returns-clause-shown : goal.returns-clause-shown
returns-clause-shown c =
    let a = c.args in
    let b = a.board in
    let whole = whole_is b.height c.root.result c.root.ensures in
    let got = c.list_box-count in
    let pre = c.requires in
    pane_served a.pane b.height b.bytes.now b.directory.now _ whole got.result a.cells.now.rows.now _ a.cells.now.columns.now _ got.ensures.listed pre.1 pre.2 c.if-cells-places.false c.if-cells-places-2.false

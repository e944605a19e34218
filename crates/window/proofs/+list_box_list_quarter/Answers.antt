use Prim.Native.Nat.{ℕ, ◌^◌, ◌≤◌}
use mathlib.Core.Path.{◌≡◌, refl, sym, ap, ◌∙◌}
use mathlib.Core.List.{[]}
use native.Mathlib.Omega.{arith}
use Rattle.bitmap.specs.Bits.{group_at, bit_of}
use Rattle.bitmap.proofs.Ones.{bit_small}
use Rattle.bitmap.proofs.RankByGroup.{ones_to}
use Rattle.board.specs.Under.{first_child, if_one}
use Rattle.order.specs.Order.{keep}
use Rattle.window.specs.Span.{within}
use Rattle.window.specs.Listing.{Listed, box_of, under_spot}
use Rattle.window.proofs.Spans.{nothing_by_rows, nothing_by_columns}
use Rattle.window.proofs.Standing.{group_within, stood_fits, side_small}
use Rattle.window.proofs.Listing.{listed_beside, quarter_stood, partly_none, partly_more, partly_room, partly_all, if_one_some, cell_listed, ones_to_more}
use Rattle.window.proofs.+list_box_list_quarter.Goals as goal
use Rattle.window.proofs.+list_box_list_quarter.Goals.{list_quarter-then-one-eq0-via-then-one-eq0, list_quarter-then-one-eq0-via-else-one-eq0+then-not-meets, list_quarter-then-one-eq0-via-else-one-eq0+else-not-meets+then-not-meets-2}

pub list_box-first_child-child-requires : goal.list_box-first_child-child-requires
list_box-first_child-child-requires t c =
    let a = c.args in
    let pre = c.requires in
    group_within a.ranked.now.bytes.now a.s pre.0 pre.1

pub list_box-loop-quarter-init : goal.list_box-loop-quarter-init
list_box-loop-quarter-init t c =
    let a = c.args in
    let pre = c.requires in
    (omega arith, (unfold first_child ones_to in omega (arith, c.first_child-child.ensures.0)), omega (arith, c.first_child-child.ensures.1), partly_none a.pane a.ranked.now.bytes.now a.s a.n _ _, refl, refl)

pub list_box-quarter_spot-part-requires : goal.list_box-quarter_spot-part-requires
list_box-quarter_spot-part-requires t c =
    let a = c.args in
    let pre = c.requires in
    let fits = stood_fits a.ranked.now.bytes.now a.s pre.0 in
    omega (arith, pre.1, fits.row, fits.column, side_small)

pub list_box-list_quarter-count-requires : goal.list_box-list_quarter-count-requires
list_box-list_quarter-count-requires t c =
    let a = c.args in
    let pre = c.requires in
    let w = c.loop-quarter in
    let one : c.bit_in-one.result ≡ bit_of (group_at a.ranked.now.bytes.now a.s.group.0) w.quarter = c.bit_in-one.ensures ∙ ap (λ (x : ℕ). bit_of x w.quarter) c.group_at-bits.ensures.0 in
    let part = c.quarter_spot-part in (
      omega (arith, c.decreases, pre.1, part.ensures.0),
      (
        (λ k. quarter_stood a.ranked.now.bytes.now a.s w.quarter w.child.0 part.result pre.0 pre.1 (omega arith) w.invariant.1 part.ensures (omega (arith, k, one))),
        rw one (partly_room a.pane a.ranked.now.bytes.now a.s w.quarter w.child.0 part.result (omega arith) w.invariant.1 part.ensures a.n w.count (2 ^ 32) _ w.cells.rows.now _ w.cells.columns.now pre.1 pre.2 w.invariant.3),
      ),
    )

pub list_box-after-child-requires : goal.list_box-after-child-requires
list_box-after-child-requires t c =
    let a = c.args in
    let pre = c.requires in
    let w = c.loop-quarter in
    let one : c.bit_in-one.result ≡ bit_of (group_at a.ranked.now.bytes.now a.s.group.0) w.quarter = c.bit_in-one.ensures ∙ ap (λ (x : ℕ). bit_of x w.quarter) c.group_at-bits.ensures.0 in
    omega (arith, w.invariant.0, w.invariant.2, one, bit_small (group_at a.ranked.now.bytes.now a.s.group.0) w.quarter)

pub list_box-loop-quarter-preserved : goal.list_box-loop-quarter-preserved
list_box-loop-quarter-preserved t c =
    let a = c.args in
    let pre = c.requires in
    let w = c.loop-quarter in
    let one : c.bit_in-one.result ≡ bit_of (group_at a.ranked.now.bytes.now a.s.group.0) w.quarter = c.bit_in-one.ensures ∙ ap (λ (x : ℕ). bit_of x w.quarter) c.group_at-bits.ensures.0 in
    let part = c.quarter_spot-part in
    let got = c.list_quarter-count in (
      omega arith,
      omega (arith, c.after-child.ensures, w.invariant.1, one, ones_to_more (group_at a.ranked.now.bytes.now a.s.group.0) w.quarter),
      omega (arith, c.after-child.ensures, w.invariant.2, one, bit_small (group_at a.ranked.now.bytes.now a.s.group.0) w.quarter),
      partly_more a.pane a.ranked.now.bytes.now a.s w.quarter w.child.0 part.result (omega arith) w.invariant.1 part.ensures a.n w.count got.result _ w.cells.rows.now _ _ w.cells.columns.now _ w.invariant.3
          (rw one at got.ensures.listed),
      got.ensures.same_rows ∙ w.invariant.4,
      got.ensures.same_columns ∙ w.invariant.5,
    )

pub list_box-returns-clause-listed : goal.list_box-returns-clause-listed
list_box-returns-clause-listed t c =
    let a = c.args in
    let w = c.loop-quarter in
    partly_all a.pane a.ranked.now.bytes.now a.s w.quarter a.n w.count _ _ _ _ c.requires.1 (omega arith) w.invariant.3

pub list_quarter-returns-then-one-eq0-clause-listed : goal.list_quarter-returns-then-one-eq0-clause-listed
list_quarter-returns-then-one-eq0-clause-listed t c =
    let a = c.args in
    let beside : (1 ≤ a.one → keep (within a.pane) (under_spot a.ranked.now.bytes.now a.s) ≡ []) → Listed a.pane (if_one a.one (under_spot a.ranked.now.bytes.now a.s)) a.n a.n a.cells.now.rows.now a.cells.now.rows.now a.cells.now.columns.now a.cells.now.columns.now =
    listed_beside a.pane a.one _ a.n a.cells.now.rows.now a.cells.now.columns.now in
    elim c.then-one-eq0.branch [
      | list_quarter-then-one-eq0-via-then-one-eq0 w ↦ beside (λ k. absurd (omega (arith, w.if-one-eq0.true)))
      | list_quarter-then-one-eq0-via-else-one-eq0+then-not-meets w ↦ beside (λ k. nothing_by_rows a.pane a.ranked.now.bytes.now a.s.left a.s.group.0 (box_of a.s) (sym w.meets.ensures ∙ w.if-not-meets.true))
      | list_quarter-then-one-eq0-via-else-one-eq0+else-not-meets+then-not-meets-2 w ↦ beside (λ k. nothing_by_columns a.pane a.ranked.now.bytes.now a.s.left a.s.group.0 (box_of a.s) (sym w.meets-else-not-meets.ensures ∙ w.if-not-meets-2.true))
    ]

pub list_quarter-returns-then-s-eq0-clause-listed : goal.list_quarter-returns-then-s-eq0-clause-listed
list_quarter-returns-then-s-eq0-clause-listed t c =
    let a = c.args in
    let pre = c.requires in
    let some : 1 ≤ a.one = omega (arith, c.if-one-eq0.false) in
    rw (if_one_some _ _ some, c.put.ensures.put.0, c.put.ensures.put.1)
    (cell_listed a.pane a.ranked.now.bytes.now a.s a.n a.cells.now.rows.now a.cells.now.columns.now c.if-s-eq0.true
    (sym c.meets.ensures ∙ c.if-not-meets.false) (sym c.meets-else-not-meets.ensures ∙ c.if-not-meets-2.false))

-- `window::list_box` and `list_quarter` meet their contracts. They call each other with the levels left falling: a box of `left` levels
-- has the measure 2 * left, a quarter one more. The loop's invariant: the first quarters are listed, and `child` is the group of the next one. Assumes nothing.
use Prim.Native.Nat.{◌+◌, ◌*◌, ◌-◌, ◌^◌, ◌≤◌}
use mathlib.Core.Path.{◌≡◌}
use Rattle.window.proofs.Listing.{IsChild, Partly}
use Rattle.window.proofs.+list_box_list_quarter.Given as goal

abbrev pub decreases-list_box : goal.decreases-list_box
decreases-list_box l = 2 * l.s.left

abbrev pub invariant-list_box-loop-quarter : goal.invariant-list_box-loop-quarter
invariant-list_box-loop-quarter l =
    (l.quarter ≤ 4) × IsChild l.ranked.bytes.now l.s l.quarter l.child.0 × (l.child.0 ≤ 2 ^ 17 + l.quarter) × Partly l.pane l.ranked.bytes.now l.s l.quarter l.n l.count l.initial.cells.rows.now l.cells.rows.now l.initial.cells.columns.now l.cells.columns.now
    × (l.cells.rows.ghost_name ≡ l.initial.cells.rows.ghost_name) × (l.cells.columns.ghost_name ≡ l.initial.cells.columns.ghost_name)

abbrev pub decreases-list_box-loop-quarter : goal.decreases-list_box-loop-quarter
decreases-list_box-loop-quarter l = 4 - l.quarter

abbrev pub decreases-list_quarter : goal.decreases-list_quarter
decreases-list_quarter l = 2 * l.s.left + 1

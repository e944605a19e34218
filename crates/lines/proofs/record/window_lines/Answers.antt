use mathlib.Core.Path.{refl}
use native.Mathlib.Omega.{arith}
use Rattle.window.specs.Window.{ends}
use Rattle.lines.proofs.Windows.{window_all, cells_room, shown_are}
use Rattle.lines.proofs.record.window_lines.Goals as goal

pub put_window-requires : goal.put_window-requires
put_window-requires c =
    let g = c.args in
    let b = g.board in
    let room = cells_room b.height b.bytes.now b.directory.now (ends g.lowest_row g.highest_row g.lowest_column g.highest_column) _ _ _ c.window-answer.ensures.returned in
    (omega (arith, room.0), omega (arith, room.1), omega (arith, room.0), omega arith)

pub returns : goal.returns
returns c =
    let g = c.args in
    let b = g.board in
    let e = c.window-answer.ensures in
    record {
      text = rw (shown_are _ _ _ _ _ _ _ e (window_all b.height b.bytes.now b.directory.now (ends g.lowest_row g.highest_row g.lowest_column g.highest_column) _ _)) at c.put_window.ensures;
      kept = record {
        same = record { rows = (refl, refl); columns = (refl, refl); keys = (refl, refl); corners = (refl, refl); trail = (refl, refl) };
        rows = omega arith;
        columns = omega arith;
        keys = refl;
        corners = refl;
        trail = refl;
      };
      rows_left = e.rows_left;
      columns_left = e.columns_left;
      keys_stay = refl;
      corners_stay = refl;
      trail_stays = refl;
    }

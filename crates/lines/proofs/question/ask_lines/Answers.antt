use mathlib.Core.Path.{refl}
use native.Mathlib.Omega.{arith}
use Rattle.nearest.proofs.Handing.{asked_shows}
use Rattle.lines.proofs.Questions.{asked_lines}
use Rattle.lines.proofs.question.ask_lines.Goals as goal

pub put_answer-requires : goal.put_answer-requires
put_answer-requires c =
    let g = c.args in
    let b = g.board in
    let e = c.asked-answer.ensures in
    let fits = (asked_lines b.height b.bytes.now b.directory.now g.p g.k _ _ _ _ _ _ _ e).0 in
    let shows = asked_shows e in
    (shows.handed, shows.fits, omega (arith, fits), omega (arith, fits), omega arith)

pub returns : goal.returns
returns c =
    let g = c.args in
    let b = g.board in
    let e = c.asked-answer.ensures in
    record {
      text = rw (asked_lines b.height b.bytes.now b.directory.now g.p g.k _ _ _ _ _ _ _ e).1 at c.put_answer.ensures;
      kept = record {
        same = record { rows = (refl, refl); columns = (refl, refl); keys = (refl, refl); corners = (refl, refl); trail = (refl, refl) };
        rows = refl;
        columns = refl;
        keys = omega arith;
        corners = omega arith;
        trail = omega arith;
      };
      keys_left = rw (← (asked_shows e).keys_long) c.clear.ensures;
      corners_left = e.corners_left;
      trail_left = e.trail_left;
      rows_stay = refl;
      columns_stay = refl;
    }

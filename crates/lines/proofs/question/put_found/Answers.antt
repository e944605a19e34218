use mathlib.Core.Path.{sym}
use native.Mathlib.Omega.{arith}
use lib.ListN.{take}
use lib.Seq.{length-take-le}
use Rattle.seek.specs.Step.{handed_in}
use Rattle.nearest.proofs.Answering.{length_handed}
use Rattle.text.specs.Lines.{ask_line, opened_line}
use Rattle.text.proofs.Putting.{put-length}
use Rattle.lines.proofs.Room.{three_words, words_take, line_short, keys_short}
use Rattle.lines.proofs.Asking.{handed_small, found_puts}
use Rattle.lines.proofs.question.put_found.Goals as goal

pub put_ask-requires : goal.put_ask-requires
put_ask-requires c =
    let g = c.args in
    omega (arith, line_short (ask_line g.k g.found.joints g.found.boxes) (three_words g.k g.found.joints g.found.boxes (omega arith) (omega arith) (omega arith)))

pub put_keys-requires : goal.put_keys-requires
put_keys-requires c =
    let g = c.args in
    let e = c.put_ask.ensures.put in
    (c.requires.0, omega (arith, e.place, put-length e, line_short (ask_line g.k g.found.joints g.found.boxes) (three_words g.k g.found.joints g.found.boxes (omega arith) (omega arith) (omega arith)), keys_short (handed_in g.found.joints g.keys.now) (handed_small g.found.joints g.keys.now c.requires.0), length_handed g.found.joints g.keys.now))

pub put_opened-requires : goal.put_opened-requires
put_opened-requires c =
    let g = c.args in
    let e = c.put_ask.ensures.put in
    let f = c.put_keys.ensures.put in
    let trail = take g.found.boxes g.trail.now in
    let opened = line_short (opened_line trail) (words_take g.found.boxes g.trail.now (λ i. omega (arith, c.type_inv.trail i))) in
    omega (arith, e.place, put-length e, f.place, put-length f, opened, length-take-le g.found.boxes g.trail.now (omega arith), line_short (ask_line g.k g.found.joints g.found.boxes) (three_words g.k g.found.joints g.found.boxes (omega arith) (omega arith) (omega arith)), keys_short (handed_in g.found.joints g.keys.now) (handed_small g.found.joints g.keys.now c.requires.0), length_handed g.found.joints g.keys.now)

pub returns : goal.returns
returns c =
    let g = c.args in
    found_puts g.k g.found.joints g.found.boxes (handed_in g.found.joints g.keys.now) (take g.found.boxes g.trail.now) (sym (length_handed g.found.joints g.keys.now)) (sym (length-take-le g.found.boxes g.trail.now (omega arith))) c.put_ask.ensures c.put_keys.ensures c.put_opened.ensures

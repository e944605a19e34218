-- `board::Board::member` meets its contract: refused as it was asked, or by 12, and else as the way down says. Assumes nothing.
use mathlib.Core.Path.{sym, ap, ◌∙◌}
use Rattle.board.specs.Numbers.{numbers_of}
use Rattle.board.proofs.Asking.{asked_ready, ready_height}
use Rattle.board.proofs.Board.member.Goals as goal

pub on_board-requires : goal.on_board-requires
on_board-requires c =
    let a = c.args.self in
    ready_height _ _ _ (asked_ready a.height a.bytes.now a.directory.now _ _ (sym c.ask.ensures ∙ ap numbers_of c.in_ok-ask.was))

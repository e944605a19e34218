-- Each promise determines its call.
use mathlib.Core.Path.{◌≡◌, refl, sym, ap, ◌∙◌}
use Rattle.promise.specs.Determines.{Determines}
use Rattle.refusal.proofs.Numbers.{same_refusal}
use Rattle.refusal.proofs.Answers.{not_both}
use Rattle.std.specs.Prelude.{Bool, Result, Ok, Err}
use Rattle.refusal.specs.declared.Refusal.{Refusal}
use Rattle.board.specs.declared.Counts.{Counts}
use Rattle.board.specs.Numbers.{numbers_of}
use Rattle.board.specs.Member.{member_numbers}
use Rattle.board.specs.contracts.side as side-fn
use Rattle.board.proofs.side.Reads as side
use Rattle.board.specs.contracts.check.check as check-fn
use Rattle.board.proofs.check.check.Reads as check
use Rattle.board.specs.contracts.Board.ask as ask-fn
use Rattle.board.proofs.Board.ask.Reads as ask
use Rattle.board.specs.contracts.directory.make_directory as make-directory-fn
use Rattle.board.proofs.directory.make_directory.Reads as make-directory
use Rattle.board.specs.contracts.member.on_board as on-board-fn
use Rattle.board.proofs.member.on_board.Reads as on_board_lem
use Rattle.board.specs.contracts.Board.member as member-fn
use Rattle.board.proofs.Board.member.Reads as member

-- ---- answers with the same numbers are equal

counts_path : (r s : Counts) → r.joints ≡ s.joints → r.boxes ≡ s.boxes → r ≡ s
counts_path r s j b = λ i. record { joints = j i; boxes = b i }

pub checks_alike : (r s : Result Counts Refusal) → numbers_of r ≡ numbers_of s → r ≡ s
checks_alike (Ok r) (Ok s) e =
    let j : r.joints ≡ s.joints = cc in
    let b : r.boxes ≡ s.boxes = cc in
    ap Ok (counts_path r s j b)
checks_alike (Ok r) (Err b) e = absurd (not_both (sym e))
checks_alike (Err a) (Ok s) e = absurd (not_both e)
checks_alike (Err a) (Err b) e = ap Err (same_refusal a b e)

pub members_alike : (r s : Result Bool Refusal) → member_numbers r ≡ member_numbers s → r ≡ s
members_alike (Ok r) (Ok s) e = cc
members_alike (Ok r) (Err b) e = absurd (not_both (sym e))
members_alike (Err a) (Ok s) e = absurd (not_both e)
members_alike (Err a) (Err b) e = ap Err (same_refusal a b e)

-- ---- the entries

pub check_determined : Determines check-fn.ended check.Asked check.Learnt
check_determined κs a asked x y left other p q = (checks_alike x y (p ∙ sym q), refl)

pub make_directory_determined : Determines make-directory-fn.ended make-directory.Asked make-directory.Learnt
make_directory_determined κs a asked x y left other p q =
    (checks_alike x y (p.0 ∙ sym q.0), λ i. (tt, (tt, ((p.1 ∙ sym q.1) i, tt))))

pub member_determined : Determines member-fn.ended member.Asked member.Learnt
member_determined κs a asked x y left other p q = (members_alike x y (p ∙ sym q), refl)

-- ---- and what other crates call

pub ask_determined : Determines ask-fn.ended ask.Asked ask.Learnt
ask_determined κs a asked x y left other p q = (checks_alike x y (p ∙ sym q), refl)

pub side_determined : Determines side-fn.ended side.Asked side.Learnt
side_determined κs a asked x y left other p q = (p ∙ sym q, refl)

pub on_board_determined : Determines on-board-fn.ended on_board_lem.Asked on_board_lem.Learnt
on_board_determined κs a asked x y left other p q = (p ∙ sym q, refl)

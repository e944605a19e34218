-- Each promise determines its call: a text is put on a page in one way.
use mathlib.Core.Path.{◌≡◌, refl, sym, ◌∙◌}
use mathlib.Core.List.{List}
use Prim.Native.Nat.{ℕ}
use Rattle.promise.specs.Determines.{Determines}
use Rattle.lent.proofs.References.{same_reference}
use Rattle.text.specs.declared.page.Page.{Page}
use Rattle.text.specs.Text.{Put}
use Rattle.text.specs.Page.{Puts}
use Rattle.text.specs.contracts.page.Page.put_refused as put-refused-fn
use Rattle.text.proofs.page.Page.put_refused.Reads as Put-refused
use Rattle.text.specs.contracts.page.Page.put_board as put-board-fn
use Rattle.text.proofs.page.Page.put_board.Reads as put-board
use Rattle.text.specs.contracts.page.Page.put_ask as put-ask-fn
use Rattle.text.proofs.page.Page.put_ask.Reads as put-ask
use Rattle.text.specs.contracts.page.Page.put_at as put-at-fn
use Rattle.text.proofs.page.Page.put_at.Reads as put-at
use Rattle.text.specs.contracts.page.Page.put_opened as put-opened-fn
use Rattle.text.proofs.page.Page.put_opened.Reads as put-opened
use Rattle.text.specs.contracts.page.Page.put_win as put-win-fn
use Rattle.text.proofs.page.Page.put_win.Reads as put-win
use Rattle.text.specs.contracts.page.Page.put_in as put-in-fn
use Rattle.text.proofs.page.Page.put_in.Reads as put_in
use Rattle.text.specs.contracts.page.Page.put_ins as put-ins-fn
use Rattle.text.proofs.page.Page.put_ins.Reads as put-ins
use Rattle.text.specs.contracts.page.Page.put_no as put-no-fn
use Rattle.text.proofs.page.Page.put_no.Reads as put-no
use Rattle.text.specs.contracts.page.Page.put_end as put-end-fn
use Rattle.text.proofs.page.Page.put_end.Reads as put-end

-- of a list
pub put_one_way : {text : List ℕ} {at r s : ℕ} {was is other : List ℕ} → Put text at was r is → Put text at was s other → (r ≡ s) × (is ≡ other)
put_one_way p q = (p.place ∙ sym q.place, p.bytes ∙ sym q.bytes)

-- and of a page
pub page_one_way : {text : List ℕ} {was x y : Page} → Puts text was x → Puts text was y → x ≡ y
page_one_way {text} {was} {x} {y} p q =
    let put = put_one_way p.put q.put in
    let out = same_reference was.out x.out y.out p.list q.list put.1 in
    λ i. record { out = out i; at = put.0 i }

pub put_refused_determined : Determines put-refused-fn.ended Put-refused.Asked Put-refused.Learnt
put_refused_determined κs a asked x y left other p q = let page = page_one_way p q in (refl, λ i. (page i, (tt, (tt, tt))))

pub put_board_determined : Determines put-board-fn.ended put-board.Asked put-board.Learnt
put_board_determined κs a asked x y left other p q = let page = page_one_way p q in (refl, λ i. (page i, (tt, (tt, (tt, tt)))))

pub put_ask_determined : Determines put-ask-fn.ended put-ask.Asked put-ask.Learnt
put_ask_determined κs a asked x y left other p q = let page = page_one_way p q in (refl, λ i. (page i, (tt, (tt, (tt, tt)))))

pub put_at_determined : Determines put-at-fn.ended put-at.Asked put-at.Learnt
put_at_determined κs a asked x y left other p q = let page = page_one_way p q in (refl, λ i. (page i, (tt, (tt, (tt, tt)))))

pub put_opened_determined : Determines put-opened-fn.ended put-opened.Asked put-opened.Learnt
put_opened_determined κs a asked x y left other p q = let page = page_one_way p q in (refl, λ i. (page i, (tt, tt)))

pub put_win_determined : Determines put-win-fn.ended put-win.Asked put-win.Learnt
put_win_determined κs a asked x y left other p q = let page = page_one_way p q in (refl, λ i. (page i, (tt, tt)))

pub put_in_determined : Determines put-in-fn.ended put_in.Asked put_in.Learnt
put_in_determined κs a asked x y left other p q = let page = page_one_way p q in (refl, λ i. (page i, (tt, (tt, tt))))

pub put_ins_determined : Determines put-ins-fn.ended put-ins.Asked put-ins.Learnt
put_ins_determined κs a asked x y left other p q = let page = page_one_way p q in (refl, λ i. (page i, (tt, (tt, tt))))

pub put_no_determined : Determines put-no-fn.ended put-no.Asked put-no.Learnt
put_no_determined κs a asked x y left other p q = let page = page_one_way p q in (refl, λ i. (page i, (tt, tt)))

pub put_end_determined : Determines put-end-fn.ended put-end.Asked put-end.Learnt
put_end_determined κs a asked x y left other p q = let page = page_one_way p q in (refl, λ i. (page i, tt))

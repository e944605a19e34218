-- A text on a page: what is lent for it, and the place up to which it is written.
use Rattle.std.specs.Prelude.{ℕ, List}
use Rattle.lent.specs.References.{Stays}
use Rattle.text.specs.declared.page.Page.{Page}
use Rattle.text.specs.Text.{Fits, Put}

-- the page has room for a text
abbrev pub Room : List ℕ → Page → Type 0
Room text page = Fits text page.at page.out.now

-- a text is put on the page, behind what is written; the page is the list that it was
pub record Puts (text : List ℕ) (was is : Page) : Type 0 where
  pub put : Put text was.at was.out.now is.at is.out.now
  pub list : Stays was.out is.out

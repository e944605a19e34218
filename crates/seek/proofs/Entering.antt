-- An entry that is a box, read from its key and its corner.
use Prim.Native.Nat.{ℕ, suc, ◌/◌, ◌%◌, ◌^◌}
use mathlib.Core.Path.{◌≡◌, refl, ◌∙◌}
use mathlib.Core.List.{List}
use Rattle.board.specs.Kids.{kids_at, kids}
use Rattle.search.specs.Keys.{id_of}
use Rattle.search.specs.Entries.{entry_of}
use Rattle.keys.specs.Places.{Fits, Corner}
use Rattle.seek.specs.Lying.{box_from}
use Rattle.seek.specs.Opening.{BoxMayOpen}
use Rattle.seek.proofs.Lying.{corner_box, corner_begins}

module _ {bytes : List ℕ} {x c g level row col : ℕ} (o : BoxMayOpen bytes x c) (gr : g ≡ id_of x) (lv : level ≡ c / 2 ^ 24) (r : row ≡ c / 2 ^ 12 % 2 ^ 12) (cl : col ≡ c % 2 ^ 12) where
  level_is : level ≡ suc o.level
  level_is = lv ∙ o.is.levels

  -- it fits
  pub entry_fits : Fits level row col
  entry_fits = rw (level_is, r, cl) (record { low = o.is.low; rows = o.is.rows_fit; columns = o.is.columns_fit })

  -- its corner
  pub entry_corner : Corner level row col (entry_of x c).box
  entry_corner = rw (level_is, r, cl) (record { rows = o.is.rows; columns = o.is.columns })

  -- it begins there
  pub entry_begins : Corner level row col (box_from level row col)
  entry_begins = corner_begins entry_corner

  -- what it opens to
  pub entry_kids : kids_at bytes level g (box_from level row col) ≡ kids bytes (entry_of x c)
  entry_kids = rw (corner_box entry_corner, level_is, gr, o.is.group, o.is.left) refl

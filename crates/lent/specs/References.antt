-- A reference to what is lent for writing, kept in a struct.
use Rattle.std.specs.Prelude.{◌≡◌}
use Rattle.std.specs.Borrow.{MutBor}

-- the reference is the one that it was; what it leads to may have changed
abbrev pub Stays : {A : Type 0} → MutBor A → MutBor A → Type 0
Stays was is = (is.ref_ptr ≡ was.ref_ptr) × (is.ghost_name ≡ was.ghost_name)

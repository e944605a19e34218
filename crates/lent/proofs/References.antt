-- What two references have in common that are the one that it was.
use Rattle.std.proofs.Common.{◌≡◌, MutBor, sym, ◌∙◌}
use Rattle.lent.specs.References.{Stays}

-- they lead to the same, and so they are the same
pub same_reference : {A : Type 0} (was x y : MutBor A) → Stays was x → Stays was y → x.now ≡ y.now → x ≡ y
same_reference was x y p q e = λ i. record { ref_ptr = (p.0 ∙ sym q.0) i; ghost_name = (p.1 ∙ sym q.1) i; now = e i }

-- The promise of `nonzero` determines the call, of every type that has one default.
use mathlib.Core.Path.{◌≡◌, sym, ◌∙◌, refl}
use mir.Syntax.{Dict}
use denote.RattleType.{RattleType}
use denote.Param.Laws.{Laws}
use Rattle.std.specs.declared.cmp.PartialEq as equals
use Rattle.std.specs.declared.default.Default as defaults
use Rattle.promise.specs.Determines.{Determines}
use Rattle.say.specs.contracts.nonzero as nonzero-fn
use Rattle.say.proofs.nonzero.Reads as nonzero

pub nonzero_determined :
    (T : RattleType) (laws : Laws T) (e : equals.Ghosts T.Denot) (ed : Dict) (d : defaults.Ghosts T.Denot) (dd td : Dict)
    → ((x y : T.Denot) → d.is_default x → d.is_default y → x ≡ y)
    → Determines (nonzero-fn.ended T e ed d dd td) (nonzero.Asked T laws e ed d dd td) (nonzero.Learnt T laws e ed d dd td)
nonzero_determined T laws e ed d dd td one κs a asked x y left other p q = (p.2 ∙ sym (rw (one _ _ q.1 p.1) at q.2), refl)

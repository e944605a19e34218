-- The promise determines the call, of every type of numbers.
use mathlib.Core.Path.{sym, ◌∙◌, refl}
use mir.Syntax.{Dict}
use denote.RattleType.{RattleType}
use denote.Param.Laws.{Laws, IsCopy}
use Rattle.std.specs.declared.clone.Clone as copies
use Rattle.promise.specs.Determines.{Determines}
use Rattle.lent.specs.declared.Zero as zeros
use Rattle.lent.specs.contracts.clear as clear-fn
use Rattle.lent.proofs.clear.Reads as clear
use Rattle.lent.specs.contracts.U8Zero.zero as u8-fn
use Rattle.lent.proofs.U8Zero.zero.Reads as u8
use Rattle.lent.specs.contracts.U16Zero.zero as u16-fn
use Rattle.lent.proofs.U16Zero.zero.Reads as u16
use Rattle.lent.specs.contracts.U32Zero.zero as u32-fn
use Rattle.lent.proofs.U32Zero.zero.Reads as u32
use Rattle.lent.specs.contracts.U64Zero.zero as u64-fn
use Rattle.lent.proofs.U64Zero.zero.Reads as u64

pub clear_determined :
    (T : RattleType) (laws : Laws T) (copy : IsCopy T) (z : zeros.Ghosts T.Denot) (zd : Dict) (c : copies.Ghosts T.Denot) (cd : Dict)
    → Determines (clear-fn.ended T z zd c cd) (clear.Asked T laws copy z zd c cd) (clear.Learnt T laws copy z zd c cd)
clear_determined T laws copy z zd c cd κs a asked x y left other p q = (refl, λ i. ((p ∙ sym q) i, tt))

-- and so does that of each type's zero
pub zero_determined_u8 : Determines u8-fn.ended u8.Asked u8.Learnt
zero_determined_u8 κs a asked x y left other p q = (p ∙ sym q, refl)

pub zero_determined_u16 : Determines u16-fn.ended u16.Asked u16.Learnt
zero_determined_u16 κs a asked x y left other p q = (p ∙ sym q, refl)

pub zero_determined_u32 : Determines u32-fn.ended u32.Asked u32.Learnt
zero_determined_u32 κs a asked x y left other p q = (p ∙ sym q, refl)

pub zero_determined_u64 : Determines u64-fn.ended u64.Asked u64.Learnt
zero_determined_u64 κs a asked x y left other p q = (p ∙ sym q, refl)

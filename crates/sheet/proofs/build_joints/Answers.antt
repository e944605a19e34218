-- The work list is filled with the codes of the sheet's cells, and built from.
use native.Mathlib.Omega.{arith}
use Rattle.sheet.proofs.Shape.{sheet_shape}
use Rattle.sheet.proofs.Reading.{one_list, filled_small, filled_kept}
use Rattle.sheet.proofs.build_joints.Goals as goal

pub fill-requires : goal.fill-requires
fill-requires c =
    let g = c.args in
    let p = c.requires in
    let s = sheet_shape g.sheet.now p.0.0 p.0.1 in
    (rw p.0.2 at s.low, p.1, omega (arith, rw p.0.3 at s.long))

pub build_codes-requires : goal.build_codes-requires
build_codes-requires c =
    let g = c.args in
    let p = c.requires in
    let s = sheet_shape g.sheet.now p.0.0 p.0.1 in
    (rw p.0.2 at s.high, rw p.0.2 at s.low, rw c.fill.auto.work p.1, filled_small g.sheet.now p.0.0 p.0.1 g.height g.joints p.0.2 p.0.3 g.work.now _ c.fill.ensures)

pub returns : goal.returns
returns c =
    let g = c.args in
    let p = c.requires in
    λ rs e.
    let same = one_list g.sheet.now p.0.0 rs p.0.1 e in
    filled_kept g.sheet.now rs e g.height g.joints (rw same at p.0.2) (rw same at p.0.3) g.work.now _ c.fill.ensures _ _ _ _ c.fill.auto.work c.build_codes.ensures

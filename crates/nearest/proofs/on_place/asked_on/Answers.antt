-- `nearest::on_place::asked_on` meets its contract. Assumes nothing.
use Prim.Native.Nat.{max}
use mathlib.Core.Path.{◌≡◌, ap}
use Rattle.nearest.specs.Promise.{work_for}
use Rattle.nearest.specs.OnPlace.{on_place}
use Rattle.nearest.proofs.on_place.asked_on.Goals as goal

pub returns : goal.returns
unfolding on_place
returns c =
    let a = c.args in
    let work : max 1 a.joints ≡ work_for a.board.height a.board.bytes.now = ap (max 1) c.requires.counted in
    rw (c.place_passes-passed.ensures, work) at c.searched.ensures

-- Each promise determines its call: it is the promise of the library's call, word for word, and so the library's theorem serves.
use Rattle.promise.specs.Determines.{Determines}
use Rattle.tablet.proofs.Determined as library
use Rattle.tablet_c.specs.contracts.joint_board_read_measure as read-measure-fn
use Rattle.tablet_c.proofs.joint_board_read_measure.Reads as read-measure
use Rattle.tablet_c.specs.contracts.joint_board_read_marked as read-marked-fn
use Rattle.tablet_c.proofs.joint_board_read_marked.Reads as read-marked
use Rattle.tablet_c.specs.contracts.joint_board_check as check-fn
use Rattle.tablet_c.proofs.joint_board_check.Reads as check
use Rattle.tablet_c.specs.contracts.joint_board_build as build-fn
use Rattle.tablet_c.proofs.joint_board_build.Reads as build

pub read_measure_determined : Determines read-measure-fn.ended read-measure.Asked read-measure.Learnt
read_measure_determined = library.read_measure_determined

pub read_marked_determined : Determines read-marked-fn.ended read-marked.Asked read-marked.Learnt
read_marked_determined = library.read_marked_determined

pub check_determined : Determines check-fn.ended check.Asked check.Learnt
check_determined = library.check_determined

pub build_determined : Determines build-fn.ended build.Asked build.Learnt
build_determined = library.build_determined

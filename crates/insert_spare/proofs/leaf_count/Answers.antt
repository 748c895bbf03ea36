use Rattle.std.proofs.Common.{arith, refl, add-one}
use Rattle.insert_spare.specs.Spare.{leaves_above}
use Rattle.insert_spare.proofs.leaf_count.Goals as goal

pub loop-count-init : goal.loop-count-init
unfolding leaves_above
loop-count-init c = (omega arith, refl)

pub loop-count-preserved : goal.loop-count-preserved
unfolding leaves_above
loop-count-preserved c = (omega arith, rw add-one (omega arith))

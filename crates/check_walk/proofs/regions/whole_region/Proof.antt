-- `check_walk::regions::whole_region` meets its contract: the fields are those of `whole_region`. Assumes nothing.
use mathlib.Core.Path.{refl}
use Rattle.check_walk.specs.Regions.{whole_region}
use Rattle.check_walk.proofs.regions.whole_region.Statement.{statement}
use Rattle.check_walk.proofs.regions.whole_region.Tie as tie

returns : tie.Need-returns
unfolding whole_region
returns c = refl

pub whole_region_spec : {M : Type 1} → statement M
whole_region_spec = tie.close (tie.spec returns)

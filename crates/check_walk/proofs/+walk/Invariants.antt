-- The walk goes on at most down to the directory's cells.
use Rattle.std.proofs.Common.{◌-◌}
use Rattle.check_walk.proofs.+walk.Given as goal

abbrev pub decreases-walk : goal.decreases-walk
decreases-walk l = l.state.deepest - l.region.depth

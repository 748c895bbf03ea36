-- `query_walk::is_leaf` meets its contract: its test is that of the definition. Assumes nothing.
use mathlib.Core.Path.{ap}
use lib.Dec.{eqb}
use borrow.Author.Rules.{rules}
use Rattle.query_walk.proofs.is_leaf.Statement.{statement}
use Rattle.query_walk.proofs.is_leaf.Tie as tie

depth-of-requires : tie.Need-depth_of-depth-requires
depth-of-requires c κs = search rules

cast-depth : tie.Need-overflow_cast-depth
cast-depth c = search rules

returns : tie.Need-returns
returns c = ap (λ d. eqb d c.args.x) c.depth_of-depth.ensures.0

pub is_leaf_spec : {M : Type 1} → statement M
is_leaf_spec = tie.close (tie.spec depth-of-requires cast-depth returns)

-- `host_results::store_query` meets its contract: attribute by attribute. Assumes nothing.
use mathlib.Core.Path.{refl}
use Rattle.shape.specs.Key.{wanted_values}
use Rattle.host_results.specs.Wanted.{wanted_of}
use borrow.Author.Rules.{rules}
use Rattle.host_results.proofs.store_query.Statement.{statement}
use Rattle.host_results.proofs.store_query.Tie as tie

wanted-at-requires : tie.Need-wanted_at-a0-requires
wanted-at-requires c κs = search rules

wanted-at-requires-2 : tie.Need-wanted_at-a1-requires
wanted-at-requires-2 c κs = search rules

wanted-at-requires-3 : tie.Need-wanted_at-a2-requires
wanted-at-requires-3 c κs = search rules

wanted-at-requires-4 : tie.Need-wanted_at-a3-requires
wanted-at-requires-4 c κs = search rules

returns : tie.Need-returns
unfolding wanted_values wanted_of
returns c =
    rw (
      c.wanted_at-a0.ensures,
      c.wanted_at-a1.ensures,
      c.wanted_at-a2.ensures,
      c.wanted_at-a3.ensures,
    ) refl

pub store_query_spec : {M : Type 1} → statement M
store_query_spec =
    tie.close
    (tie.spec
    wanted-at-requires
    wanted-at-requires-2
    wanted-at-requires-3
    wanted-at-requires-4
    returns)

-- `query_rows::free_query` meets its contract by computing. Assumes nothing.
use mathlib.Core.Path.{refl}
use Rattle.shape.specs.Key.{wanted_values}
use Rattle.query_rows.proofs.free_query.Statement.{statement}
use Rattle.query_rows.proofs.free_query.Tie as tie

returns : tie.Need-returns
unfolding wanted_values
returns c = refl

pub free_query_spec : {M : Type 1} → statement M
free_query_spec = tie.close (tie.spec returns)

-- `directory_cell::reversed` meets its contract: a law computed for all sixteen. Assumes nothing.
use borrow.Author.Rules.{rules}
use Rattle.directory_cell.proofs.ReverseLaws.{entry-reversed}
use Rattle.directory_cell.proofs.reversed.Statement.{statement}
use Rattle.directory_cell.proofs.reversed.Tie as tie

mul-result : tie.Need-overflow_mul-result
mul-result c = search rules

shr-result : tie.Need-overflow_shr-result
shr-result c = search rules

returns : tie.Need-returns
returns c = entry-reversed c.args.four c.requires

pub reversed_spec : {M : Type 1} → statement M
reversed_spec = tie.close (tie.spec mul-result shr-result returns)

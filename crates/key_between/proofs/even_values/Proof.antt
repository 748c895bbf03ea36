-- `key_between::even_values` meets its contract: the mask keeps two values. Assumes nothing.
use Rattle.key_between.proofs.BetweenLaws.{even_values-mask}
use Rattle.key_between.proofs.even_values.Statement.{statement}
use Rattle.key_between.proofs.even_values.Tie as tie

returns : tie.Need-returns
returns c = even_values-mask c.args.key

pub even_values_spec : {M : Type 1} → statement M
even_values_spec = tie.close (tie.spec returns)

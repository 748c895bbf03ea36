-- `key_order::choose` meets its contract: d's bit alone and what is left of bit are the two masks. Assumes nothing.
use Rattle.key_order.proofs.ChoiceLaws.{chosen-masks}
use Rattle.key_order.proofs.choose.Statement.{statement}
use Rattle.key_order.proofs.choose.Tie as tie

returns : tie.Need-returns
returns c = chosen-masks c.args.bit c.args.d c.args.a c.args.b

pub choose_spec : {M : Type 1} → statement M
choose_spec = tie.close (tie.spec returns)

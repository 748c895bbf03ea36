-- `address_bits::only_at` meets its contract: the test says which law of `only_at` applies. Assumes nothing.
use mathlib.Core.Path.{sym}
use Rattle.address_bits.proofs.BitLaws.{only_at-same, only_at-other}
use Rattle.address_bits.proofs.only_at.Statement.{statement}
use Rattle.address_bits.proofs.only_at.Tie as tie

returns : tie.Need-returns-then-j-z
returns c = sym (only_at-same _ _ _ c.if-j-z.true)

returns-2 : tie.Need-returns-else-j-z
returns-2 c = sym (only_at-other c.args.x _ _ c.if-j-z.false)

pub only_at_spec : {M : Type 1} → statement M
only_at_spec = tie.close (tie.spec returns returns-2)

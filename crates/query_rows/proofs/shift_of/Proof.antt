-- `query_rows::shift_of` meets its contract: its test is that of the definition. Assumes nothing.
use borrow.Author.Tests.{eq-eqb, ne_eqb}
use Rattle.query_rows.proofs.shift_of.Statement.{statement}
use Rattle.query_rows.proofs.shift_of.Tie as tie

returns : tie.Need-returns-then-j-z
returns c = rw (eq-eqb _ _ c.if-j-z.true)

returns-2 : tie.Need-returns-else-j-z
returns-2 c = rw (ne_eqb _ _ c.if-j-z.false)

pub shift_of_spec : {M : Type 1} → statement M
shift_of_spec = tie.close (tie.spec returns returns-2)

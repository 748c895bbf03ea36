-- `query_walk::given_side` meets its contract: its test is that of the definition. Assumes nothing.
use borrow.Author.Tests.{eq-eqb, ne_eqb}
use Rattle.query_walk.proofs.given_side.Statement.{statement}
use Rattle.query_walk.proofs.given_side.Tie as tie

returns : tie.Need-returns-then-wanted-eq0
returns c = rw (eq-eqb _ _ c.if-wanted-eq0.true)

returns-2 : tie.Need-returns-else-wanted-eq0
returns-2 c = rw (ne_eqb _ _ c.if-wanted-eq0.false)

pub given_side_spec : {M : Type 1} → statement M
given_side_spec = tie.close (tie.spec returns returns-2)

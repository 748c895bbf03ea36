-- `query_rows::other_depth` meets its contract: its test is that of the definition. Assumes nothing.
use native.Mathlib.Omega.{arith}
use borrow.Author.Rules.{rules}
use borrow.Author.Tests.{eq-eqb, ne_eqb}
use Rattle.query_rows.proofs.other_depth.Statement.{statement}
use Rattle.query_rows.proofs.other_depth.Tie as tie

returns : tie.Need-returns-then-j-g
returns c = rw (eq-eqb _ _ c.if-j-g.true) (omega arith, omega arith)

depth-before-requires : tie.Need-depth_before-requires
depth-before-requires c κs = search rules

returns-2 : tie.Need-returns
returns-2 c = rw (ne_eqb _ _ c.if-j-g.false) (c.depth_before.ensures, omega arith)

pub other_depth_spec : {M : Type 1} → statement M
other_depth_spec = tie.close (tie.spec returns depth-before-requires returns-2)

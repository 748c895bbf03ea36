-- `shape::in_range` meets its contract: each test decides its half of `within`. Assumes nothing.
use borrow.Author.Tests.{le-leb, lt-leb}
use Rattle.shape.proofs.in_range.Statement.{statement}
use Rattle.shape.proofs.in_range.Tie as tie

returns : tie.Need-returns-then-x-lo
returns c = simp (lt-leb _ _ c.if-x-lo.true)

returns-2 : tie.Need-returns
returns-2 c = simp (le-leb _ _ c.if-x-lo.false)

pub in_range_spec : {M : Type 1} → statement M
in_range_spec = tie.close (tie.spec returns returns-2)

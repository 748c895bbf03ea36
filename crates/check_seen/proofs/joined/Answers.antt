-- The sums, and the greater depth.
use borrow.Author.Tests.{lt-ltb, le-ltb}
use Rattle.check_seen.specs.Seen.{joined_seen}
use Rattle.check_seen.proofs.joined.Goals as goal

pub returns-then-records-capacity : goal.returns-then-records-capacity
unfolding joined_seen
returns-then-records-capacity c = rw (le-ltb _ _ c.if-records-capacity.true)

pub returns : goal.returns
unfolding joined_seen
returns c = rw (lt-ltb _ _ c.if-records-capacity.false, ← c.max.ensures)

-- `check_seen::page_seen` meets its contract: the page passes or not. Assumes nothing.
use Rattle.std.proofs.Common.{sym}
use Rattle.check_seen.specs.Seen.{page_seen}
use Rattle.check_seen.proofs.page_seen.Goals as goal

pub returns-then-not-page_passes : goal.returns-then-not-page_passes
unfolding page_seen
returns-then-not-page_passes c = rw (sym c.if-not-page_passes.ensures)

pub returns : goal.returns
unfolding page_seen
returns c = rw (sym c.if-not-page_passes.ensures, c.count.ensures.0)

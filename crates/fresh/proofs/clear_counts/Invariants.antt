-- The counts of the pages before `page` are 0.
use Rattle.std.proofs.Common.{◌≡◌}
use Rattle.store.specs.Fresh.{cleared_counts}
use Rattle.fresh.proofs.clear_counts.Given as goal

abbrev pub invariant-loop-page : goal.invariant-loop-page
invariant-loop-page l = l.pages ≡ cleared_counts l.b l.page l.initial.pages

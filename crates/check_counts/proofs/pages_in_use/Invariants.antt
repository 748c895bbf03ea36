-- The pages before `page` are counted.
use Rattle.std.proofs.Common.{◌≡◌, ◌≤◌}
use Rattle.check_counts.specs.Counts.{used_pages}
use Rattle.check_counts.proofs.pages_in_use.Given as goal

abbrev pub invariant-loop-page : goal.invariant-loop-page
invariant-loop-page l = (l.used ≤ l.page) × (l.used ≡ used_pages l.capacity l.pages l.page)

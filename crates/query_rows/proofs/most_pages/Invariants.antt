-- What is counted so far is that of the steps from x on. Assumes nothing.
use Rattle.std.proofs.Common.{◌≡◌, ◌-◌}
use Rattle.query_rows.specs.Rows.{most_pages}
use Rattle.query_rows.proofs.most_pages.Given as goal

abbrev pub invariant-loop-x : goal.invariant-loop-x
invariant-loop-x l = l.most ≡ most_pages l.rows (l.t - l.x) l.x

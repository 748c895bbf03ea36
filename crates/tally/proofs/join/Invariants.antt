-- The joins from depth x + n up to y are done.
use Rattle.std.proofs.Common.{◌≡◌, ◌+◌, ◌-◌, ◌≤◌}
use Rattle.change.specs.Delete.{joined_tally}
use Rattle.tally.proofs.join.Given as goal

abbrev pub invariant-loop-y : goal.invariant-loop-y
invariant-loop-y l =
    (l.x ≤ l.y) × (l.joined.leaves ≡ joined_tally l.y (l.x + l.n - l.y) l.fn.tally.leaves)

-- The leaves above a depth are counted, fewer than 2^32 at each.
use Rattle.std.proofs.Common.{◌≡◌, ◌*◌, ◌^◌, ◌≤◌}
use Rattle.insert_spare.specs.Spare.{leaves_above}
use Rattle.insert_spare.proofs.leaf_count.Given as goal

abbrev pub invariant-loop-count : goal.invariant-loop-count
invariant-loop-count l =
    (l.n ≤ l.count-index * 2 ^ 32) × (l.n ≡ leaves_above l.fn.tally.leaves l.count-index)

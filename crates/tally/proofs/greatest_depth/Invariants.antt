-- No depth from x on has a leaf.
use Rattle.std.proofs.Common.{◌≡◌, ◌-◌, ◌≤◌}
use Rattle.change.specs.Delete.{tally_depth}
use Rattle.tally.proofs.greatest_depth.Given as goal

abbrev pub invariant-loop-x : goal.invariant-loop-x
invariant-loop-x l = (1 ≤ l.x) × (tally_depth (l.x - 1) l.leaves ≡ tally_depth l.n l.leaves)

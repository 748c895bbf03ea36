-- The counts below depth x hold.
use Rattle.std.proofs.Common.{◌≡◌, true}
use Rattle.shape.specs.Shape.{all_below}
use Rattle.tally.proofs.CountLaws.{within}
use Rattle.tally.proofs.tally_holds.Given as goal

abbrev pub invariant-loop-x : goal.invariant-loop-x
invariant-loop-x l = all_below l.x (within l.leaves) ≡ true

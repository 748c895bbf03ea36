-- What is written so far, and the records that the mask still picks.
use Rattle.std.proofs.Common.{◌≡◌, ◌+◌, ◌≤◌, length}
use Rattle.page_matches.specs.Output.{emit}
use Rattle.page_matches.specs.Mask.{picked_by}
use Rattle.page_matches.proofs.put_picked.Given as goal

abbrev pub invariant-loop-left : goal.invariant-loop-left
invariant-loop-left l =
    (l.left ≤ l.mask)
    × (l.total + length (picked_by l.mask l.page) ≡ l.found + length (picked_by l.left l.page))
    × (emit l.fn.out l.total (picked_by l.mask l.page) ≡ emit l.out l.found (picked_by l.left l.page))

abbrev pub decreases-loop-left : goal.decreases-loop-left
decreases-loop-left l = l.left

use Rattle.std.proofs.Common.{◌≡◌, ◌<◌, ◌^◌, sym, get_or, arith}
use Rattle.std.proofs.lemmas.Bool.{lt-leb}
use Rattle.lists.proofs.Shifts.{one_shifted}
use Rattle.shape.proofs.BoundsLaws.{all_below-fails}
use Rattle.tally.specs.Tally.{tally_holds}
use Rattle.tally.proofs.CountLaws.{within}
use Rattle.tally.proofs.tally_holds.Goals as goal

pub returns-then-x-leaves : goal.returns-then-x-leaves
unfolding tally_holds
returns-then-x-leaves c =
    let leaves = c.args.tally.leaves in
    let x = c.loop-x.x in
    let over : 2 ^ x < get_or leaves x 0 = omega (arith, one_shifted x (omega arith)) in
    sym (all_below-fails (within leaves) 13 x (omega arith) (lt-leb (get_or leaves x 0) (2 ^ x) over))

pub returns : goal.returns
unfolding tally_holds
returns c = let end : c.loop-x.x ≡ 13 = omega arith in sym (rw end at c.loop-x.invariant)

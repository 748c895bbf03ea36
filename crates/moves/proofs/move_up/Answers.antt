-- One byte more: it is read before those that are moved.
use Rattle.std.proofs.Common.{◌+◌, ◌-◌, ap, ◌∙◌, arith, slice_index_or, slice_set}
use Rattle.moves.proofs.MoveLaws.{paste-moved-up}
use Rattle.moves.proofs.move_up.Goals as goal

pub loop-left-preserved : goal.loop-left-preserved
loop-left-preserved c =
    let a = c.args in
    let k = c.loop-left.left in
    ap (λ l. slice_set l (a.to + (k - 1)) (slice_index_or l (a.from + (k - 1)) 0)) c.loop-left.invariant
    ∙ paste-moved-up a.bytes.now a.from a.to a.n c.requires.0 c.requires.1 k (omega arith) (omega arith)

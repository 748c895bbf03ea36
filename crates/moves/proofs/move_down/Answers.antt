-- One byte more: it is read where none is moved yet.
use Rattle.std.proofs.Common.{◌+◌, ap, ◌∙◌, arith, slice_index_or, slice_set}
use Rattle.moves.proofs.MoveLaws.{paste-moved-down}
use Rattle.moves.proofs.move_down.Goals as goal

pub loop-k-preserved : goal.loop-k-preserved
loop-k-preserved c =
    let a = c.args in
    let k = c.loop-k.k in
    ap (λ l. slice_set l (a.to + k) (slice_index_or l (a.from + k) 0)) c.loop-k.invariant
    ∙ paste-moved-down a.bytes.now a.from a.to a.n k c.requires.2 (omega arith) c.requires.0 c.requires.1

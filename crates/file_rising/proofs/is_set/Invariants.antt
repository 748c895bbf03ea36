-- `file_rising::is_set`: the records before place i are in split order, and fit exactly if `bits` do. Assumes nothing.
use Rattle.file_rising.proofs.RisingLaws.{Risen}
use Rattle.file_rising.proofs.is_set.Given as goal

abbrev pub invariant-loop-i : goal.invariant-loop-i
invariant-loop-i l = Risen l.shape l.file l.last l.bits l.i

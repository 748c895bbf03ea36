-- The siblings of depths y + 1 to z are empty leaves. Assumes nothing.
use Rattle.change_guard.proofs.JoinLaws.{EmptyTo}
use Rattle.change_guard.proofs.empties_whole.Given as goal

abbrev pub invariant-loop-z : goal.invariant-loop-z
invariant-loop-z l = EmptyTo l.state l.dir l.encoded l.y l.z

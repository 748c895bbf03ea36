-- What is put together so far is that of the depths from x on. Assumes nothing.
use Rattle.std.proofs.Common.{◌≡◌, drop}
use Rattle.query_rows.specs.Rows.{tallied_depths}
use Rattle.query_rows.proofs.tallied_depths.Given as goal

abbrev pub invariant-loop-x : goal.invariant-loop-x
invariant-loop-x l = l.depths ≡ tallied_depths (drop l.x l.tally.leaves)

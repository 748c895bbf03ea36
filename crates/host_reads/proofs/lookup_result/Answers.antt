-- What `lookup` promises, reported.
use Rattle.host_results.proofs.ResultLaws.{keeps_depth-told}
use Rattle.host_reads.proofs.lookup_result.Goals as goal

pub returns : goal.returns
returns c = rw (← c.state_in.ensures) (keeps_depth-told _ _ _ _ _ _ _ c.lookup.ensures c.found_result.ensures)

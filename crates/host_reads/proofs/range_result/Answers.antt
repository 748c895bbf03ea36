-- What `range` promises, reported.
use Rattle.host_results.proofs.ResultLaws.{keeps-reported, reports-whole}
use Rattle.host_reads.proofs.RefusalLaws.{range-no_depth}
use Rattle.host_reads.proofs.range_result.Goals as goal

pub returns : goal.returns
returns c =
    rw (← c.state_in.ensures, ← c.store_range.ensures)
    (keeps-reported _ _ _ _ _ _ c.range.ensures
    (reports-whole _ _ _ _ _ (range-no_depth _ _ _ _ _ c.range.ensures) c.listed_result.ensures))

-- What `query` promises, reported.
use Rattle.host_results.proofs.ResultLaws.{keeps-reported, reports-whole}
use Rattle.host_reads.proofs.RefusalLaws.{query-no_depth}
use Rattle.host_reads.proofs.query_result.Goals as goal

pub returns : goal.returns
returns c =
    rw (← c.state_in.ensures, ← c.store_query.ensures)
    (keeps-reported _ _ _ _ _ _ c.query.ensures
    (reports-whole _ _ _ _ _ (query-no_depth _ _ _ _ _ c.query.ensures) c.listed_result.ensures))

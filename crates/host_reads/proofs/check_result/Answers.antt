-- What `check` promises, reported.
use Rattle.host_results.proofs.ResultLaws.{keeps-reported, reports-whole}
use Rattle.host_reads.proofs.RefusalLaws.{check-no_depth}
use Rattle.host_reads.proofs.check_result.Goals as goal

pub returns-clause-keeps : goal.returns-clause-keeps
returns-clause-keeps c =
    rw (← c.state_in.ensures)
    (keeps-reported _ _ _ _ _ _ c.check.ensures
    (reports-whole _ _ _ _ _ (check-no_depth _ _ c.check.ensures) c.checked_result.ensures.reports))

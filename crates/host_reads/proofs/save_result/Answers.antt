-- What `save` promises, reported.
use Rattle.host_results.proofs.ResultLaws.{keeps-reported, reports-whole}
use Rattle.host_reads.proofs.RefusalLaws.{save-no_depth}
use Rattle.host_reads.proofs.save_result.Goals as goal

pub returns : goal.returns
returns c =
    rw (← c.state_in.ensures)
    (keeps-reported _ _ _ _ _ _ c.save.ensures
    (reports-whole _ _ _ _ _ (save-no_depth _ _ _ _ c.save.ensures) c.saved_result.ensures))

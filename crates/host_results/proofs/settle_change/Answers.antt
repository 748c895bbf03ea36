-- The words after an accepted change.
use Rattle.std.proofs.Common.{refl}
use Rattle.host_results.proofs.SettledLaws.{settled-done}
use Rattle.host_results.proofs.settle_change.Goals as goal

pub returns-in-Ok-clause-settled : goal.returns-in-Ok-clause-settled
returns-in-Ok-clause-settled c before =
    rw c.in-Ok.is (settled-done _ _ _ refl _ c.put_state.ensures.put c.put_state.ensures.shown)

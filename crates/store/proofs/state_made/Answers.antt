-- A refused call leaves the state without attributes.
use Rattle.store.proofs.DefaultLaws.{no_state-default}
use Rattle.store.proofs.state_made.Goals as goal

pub returns-in-Err : goal.returns-in-Err
returns-in-Err c = rw c.in-Err.is (no_state-default c.default.result c.default.ensures)

-- A refusal of find is handed on.
use Rattle.std.proofs.Common.{subst}
use Rattle.store.specs.Store.{store}
use Rattle.insert_planned.specs.Planned.{InsertFound}
use Rattle.insert_allocate.proofs.allocate.Goals as goal

pub returns-in-Err : goal.returns-in-Err
returns-in-Err c =
    let a = c.args in
    subst (InsertFound (store a.state a.dir.now a.pages.now) a.encoded) c.in-Err.is c.requires

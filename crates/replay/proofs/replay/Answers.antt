-- Fresh is refused, or the calls on the fresh store give the model's run.
use Rattle.std.proofs.lemmas.Result.{err_from_is_err_and}
use Rattle.store.specs.Store.{memory}
use Rattle.replay.proofs.ReplayedLaws.{replayed-refused, replayed-accepted}
use Rattle.replay.proofs.replay.Goals as goal

pub returns-in_err-empty : goal.returns-in_err-empty
returns-in_err-empty c =
    let a = c.args in
    let p = err_from_is_err_and c.from_residual.result c.from_residual.ensures.1 in
    rw (p.1, p.2)
    (replayed-refused a.shape (memory a.dir.now a.pages.now) a.calls.now a.answers.now a.out.now _ _
    c.in_err-empty.ensures)

pub returns : goal.returns
returns c =
    let a = c.args in
    replayed-accepted a.shape (memory a.dir.now a.pages.now) a.calls.now a.answers.now a.out.now _ _ _ _
    c.in_ok-empty.ensures c.run_calls.ensures

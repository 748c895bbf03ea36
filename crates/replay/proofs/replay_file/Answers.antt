-- The load is refused, or the calls on the loaded store give the model's run.
use Rattle.std.proofs.lemmas.Result.{err_from_is_err_and}
use Rattle.store.specs.Store.{memory}
use Rattle.replay.proofs.ReplayedLaws.{replayed-file-refused, replayed-file-accepted}
use Rattle.replay.proofs.replay_file.Goals as goal

pub returns-in_err-loaded : goal.returns-in_err-loaded
returns-in_err-loaded c =
    let a = c.args in
    let p = err_from_is_err_and c.from_residual.result c.from_residual.ensures.1 in
    rw (p.1, p.2)
    (replayed-file-refused a.file.now (memory a.dir.now a.pages.now) a.calls.now a.answers.now a.out.now _ _
    c.in_err-loaded.ensures)

pub returns : goal.returns
returns c =
    let a = c.args in
    replayed-file-accepted a.file.now (memory a.dir.now a.pages.now) a.calls.now a.answers.now a.out.now _ _ _ _
    c.in_ok-loaded.ensures c.run_calls.ensures

-- What `replay_file` promises, told by a number and an attribute.
use Rattle.store.specs.Answers.{made_answer}
use Rattle.file.proofs.LoadingLaws.{named-load, answered_by-load}
use Rattle.probe.proofs.ReplayLaws.{replayed-told}
use Rattle.probe.proofs.calls.probe_replay_file.Goals as goal

pub returns : goal.returns
returns c =
    let ran = c.replay_file in
    let told = c.fields_of.ensures in
    rw told.2
    (replayed-told _ _ (named-load _ _) (answered_by-load _ _) _ _ _ _ _ _ _ _ _ (made_answer ran.result) _ _
    (told.0, told.1) ran.ensures)

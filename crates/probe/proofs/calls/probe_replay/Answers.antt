-- What `replay` promises, told by a number and an attribute.
use Rattle.store.specs.Answers.{made_answer}
use Rattle.store.proofs.NumberLaws.{named-fresh, answered_by-fresh}
use Rattle.probe.proofs.ReplayLaws.{replayed-told}
use Rattle.probe.proofs.calls.probe_replay.Goals as goal

pub returns : goal.returns
returns c =
    let ran = c.replay in
    let told = c.fields_of.ensures in
    rw told.2
    (replayed-told _ _ (named-fresh _ _) (answered_by-fresh _ _) _ _ _ _ _ _ _ _ _ (made_answer ran.result) _ _
    (told.0, told.1) ran.ensures)

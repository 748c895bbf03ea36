-- A refusal's number and attribute, and no state.
use Rattle.std.proofs.Common.{sym, ◌∙◌}
use Rattle.shape.proofs.TestLaws.{number-told, attribute-told}
use Rattle.store.proofs.DefaultLaws.{no_state-default}
use Rattle.probe.proofs.calls.fields_of.Goals as goal

pub returns-in-Err : goal.returns-in-Err
returns-in-Err c =
    rw c.in-Err.is (
      c.number.ensures ∙ sym (number-told _ c.in-Err.refusal),
      c.attribute.ensures ∙ sym (attribute-told _ c.in-Err.refusal),
      no_state-default c.default.result c.default.ensures,
    )

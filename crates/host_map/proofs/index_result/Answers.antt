-- A refused call's answer, reported.
use Rattle.std.proofs.Common.{ap, sym, ◌∙◌}
use Rattle.address_calls.specs.Answers.{index_answer_of}
use Rattle.address_calls.proofs.AnswerLaws.{index_answer-no_depth}
use Rattle.host_results.proofs.ResultLaws.{reports-refused}
use Rattle.host_map.proofs.index_result.Goals as goal

pub returns-in-Err : goal.returns-in-Err
returns-in-Err c =
    rw (c.number.ensures, c.attribute.ensures, c.no_index.ensures)
    (reports-refused _ _ c.in-Err.refusal (index_answer-no_depth c.args.shape c.args.address)
    (ap index_answer_of (sym c.in-Err.is) ∙ c.index_at.ensures))

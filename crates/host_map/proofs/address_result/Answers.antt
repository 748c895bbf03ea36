-- A refused call's answer, reported.
use Rattle.std.proofs.Common.{arith, ap, sym, subst₂, ◌∙◌}
use Rattle.address_formula.specs.Index.{index_list}
use Rattle.address_calls.specs.Answers.{address_answer, address_answer_of}
use Rattle.address_calls.proofs.AnswerLaws.{address_answer-no_depth}
use Rattle.host_results.specs.Result.{Reports}
use Rattle.host_results.proofs.ResultLaws.{reports-refused}
use Rattle.host_map.proofs.address_result.Goals as goal

-- the number and the attribute are the refusal's
pub returns-in-Err : goal.returns-in-Err
returns-in-Err c =
    let answer = address_answer c.args.shape (index_list c.args.index) in
    subst₂ (λ number attribute. Reports number attribute 0 0 answer) (grind arith) (grind arith)
    (reports-refused answer 0 c.in-Err.refusal (address_answer-no_depth c.args.shape (index_list c.args.index))
    (ap address_answer_of (sym c.in-Err.is) ∙ c.address_of.ensures))

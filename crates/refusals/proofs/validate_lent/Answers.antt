-- The shape is tested first; behind it the memory decides.
use Rattle.std.proofs.Common.{[], ◌∷◌, sym, ◌∙◌}
use Rattle.std.proofs.lemmas.Result.{err_from_is_err_and}
use Rattle.shape.specs.Refusal.{answered_by, refusal}
use Rattle.shape.specs.Shape.{shape_conditions}
use Rattle.shape.proofs.RefusalLaws.{answered_by-first, answered_by-behind}
use Rattle.shape.proofs.TestLaws.{told-append, passed-shape}
use Rattle.refusals.specs.Lengths.{lent_by, lacks_memory}
use Rattle.refusals.proofs.validate_lent.Goals as goal

pub returns-in_err-validate : goal.returns-in_err-validate
unfolding lent_by
returns-in_err-validate c =
    let a = c.args in
    let p = err_from_is_err_and c.from_residual.result c.from_residual.ensures.1 in
    rw (p.1, p.2)
    (told-append tt _ (shape_conditions a.state.shape) (refusal 2 (lacks_memory a.state a.words a.bytes) ∷ []) tt
    c.in_err-validate.ensures)

pub lacks_memory-requires : goal.lacks_memory-requires
lacks_memory-requires c = passed-shape tt tt c.args.state.shape c.in_ok-validate.ensures

pub returns-then-lacks_memory : goal.returns-then-lacks_memory
unfolding lent_by
returns-then-lacks_memory c =
    let a = c.args in
    answered_by-first a.state.shape tt 1 (lacks_memory a.state a.words a.bytes) []
    (passed-shape tt tt a.state.shape c.in_ok-validate.ensures) (sym c.lacks_memory.ensures ∙ c.if-lacks_memory.true)

pub returns : goal.returns
unfolding lent_by answered_by
returns c =
    let a = c.args in
    sym
    (answered_by-behind a.state.shape tt 1 (lacks_memory a.state a.words a.bytes) []
    (passed-shape tt tt a.state.shape c.in_ok-validate.ensures) (sym c.lacks_memory.ensures ∙ c.if-lacks_memory.false))

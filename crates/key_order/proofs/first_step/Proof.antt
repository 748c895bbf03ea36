-- `key_order::first_step` meets its contract: the number of the step at the first pair that differs. Assumes nothing.
use mathlib.Core.Path.{sym, ◌∙◌}
use Rattle.shape.specs.Shape.{width_list}
use Rattle.split.proofs.StepLaws.{length-steps}
use Rattle.record.specs.Packed.{unpacked_key}
use Rattle.key_order.proofs.StepLaws.{first_step-pair}
use borrow.Author.Rules.{rules}
use Rattle.key_order.proofs.first_step.Statement.{statement}
use Rattle.key_order.proofs.first_step.Tie as tie

first-pair-requires : tie.Need-first_pair-requires
first-pair-requires c κs = search rules

steps-before-requires : tie.Need-steps_before-requires
steps-before-requires c κs = search rules

returns : tie.Need-returns
returns c =
    let a = c.args in
    let w = a.widths in
    let pair = c.first_pair in
    sym c.steps_before.ensures.before
    ∙ sym
    (first_step-pair (width_list w) c.requires (unpacked_key a.x) (unpacked_key a.y) pair.result pair.ensures
    (length-steps w.w0 w.w1 w.w2 w.w3 c.requires))

pub first_step_spec : {M : Type 1} → statement M
first_step_spec = tie.close (tie.spec first-pair-requires steps-before-requires returns)

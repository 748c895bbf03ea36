-- t steps are before place g.
use Rattle.shape.specs.Shape.{width_list}
use Rattle.pairs.specs.Pairs.{StepsBefore}
use Rattle.pairs.proofs.step_from.Given as goal

abbrev pub invariant-loop-g : goal.invariant-loop-g
invariant-loop-g l = StepsBefore (width_list l.widths) l.t l.g

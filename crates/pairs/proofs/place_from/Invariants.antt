-- So many steps are before place g, at most t.
use Rattle.std.proofs.Common.{◌≤◌}
use Rattle.shape.specs.Shape.{width_list}
use Rattle.pairs.specs.Pairs.{StepsBefore}
use Rattle.pairs.proofs.place_from.Given as goal

abbrev pub invariant-loop-g : goal.invariant-loop-g
invariant-loop-g l = (l.before ≤ l.t) × StepsBefore (width_list l.widths) l.before l.g

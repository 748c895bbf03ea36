-- The new addresses below a fold. Assumes nothing.
use Rattle.shape.specs.Shape.{width_list}
use Rattle.directory_tests.proofs.FoldLaws.{FoldedTo}
use Rattle.directory_tests.proofs.halving.step_folds.Given as goal

abbrev pub invariant-loop-a : goal.invariant-loop-a
invariant-loop-a l = FoldedTo (width_list l.widths) l.s l.own l.dir l.a

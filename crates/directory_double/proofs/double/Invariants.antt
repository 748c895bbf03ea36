-- The new addresses below a have their words. Assumes nothing.
use Rattle.shape.specs.Shape.{width_list}
use Rattle.directory.proofs.DoublingLaws.{DoubledTo}
use Rattle.directory_double.proofs.double.Given as goal

abbrev pub invariant-loop-a : goal.invariant-loop-a
invariant-loop-a l = DoubledTo (width_list l.widths) l.t l.initial.dir l.dir l.a

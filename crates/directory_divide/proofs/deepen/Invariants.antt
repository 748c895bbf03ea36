-- The directory has been doubled from depth t to `depth`. Assumes nothing.
use Rattle.shape.specs.Shape.{width_list}
use Rattle.change.specs.Divided.{Deepened}
use Rattle.directory_divide.proofs.deepen.Given as goal

abbrev pub invariant-loop-depth : goal.invariant-loop-depth
invariant-loop-depth l = Deepened (width_list l.widths) l.t l.depth l.initial.dir l.dir

-- The siblings of depths x + 1 to y have been set. Assumes nothing.
use Rattle.shape.specs.Shape.{width_list}
use Rattle.split.specs.Bits.{split_bit}
use Rattle.change.specs.Divided.{SiblingsSet}
use Rattle.directory_divide.proofs.set_siblings.Given as goal

abbrev pub invariant-loop-y : goal.invariant-loop-y
invariant-loop-y l =
    let ws = width_list l.widths in
    SiblingsSet ws l.t l.x l.y (split_bit ws l.key) l.initial.dir l.dir

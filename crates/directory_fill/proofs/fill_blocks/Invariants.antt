-- The region has its cells of y bits. Assumes nothing.
use Rattle.shape.specs.Shape.{width_list}
use Rattle.address_formula.specs.Index.{index_list}
use Rattle.directory.proofs.RegionLaws.{FilledTo}
use Rattle.directory_fill.proofs.fill_blocks.Given as goal

abbrev pub invariant-loop-y : goal.invariant-loop-y
invariant-loop-y l =
    FilledTo (width_list l.widths) (index_list l.index) l.x l.t l.word l.y l.g (index_list l.last) l.initial.dir l.dir

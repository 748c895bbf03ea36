-- The steps from u to s - 1 fold. Assumes nothing.
use Rattle.shape.specs.Shape.{width_list}
use Rattle.split.specs.Bits.{split_bit}
use Rattle.directory_tests.specs.Intact.{Folds}
use Rattle.directory_tests.proofs.halving.folds.Given as goal

abbrev pub invariant-loop-s : goal.invariant-loop-s
invariant-loop-s l =
    let ws = width_list l.widths in
    Folds ws l.u l.s (split_bit ws l.key) l.dir

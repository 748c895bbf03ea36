-- The first i records are scanned, none of which is refused. Assumes nothing.
use Rattle.shape.specs.Shape.{width_list}
use Rattle.file_scan.proofs.TurnLaws.{Scanned}
use Rattle.file_scan.proofs.scan.Given as goal

abbrev pub invariant-loop-i : goal.invariant-loop-i
invariant-loop-i l =
    Scanned (width_list l.widths) l.bias l.file l.capacity l.deepest l.pages l.n l.leaves l.depth l.last l.i

-- `check_page::ascends`: the records before k are in order, and have the bits `bits`. Assumes nothing.
use Rattle.std.proofs.Common.{ℕ, List}
use Rattle.shape.specs.Shape.{width_list}
use Rattle.check_page.specs.PageTest.{Reads}
use Rattle.check_page.proofs.AscendLaws.{Risen}
use Rattle.check_page.proofs.ascends.Given as goal

abbrev pub invariant-loop-k : goal.invariant-loop-k
invariant-loop-k g l =
    (page : List ℕ) (bias : ℕ) → Reads (goal.F-post g l.read) page bias l.n
    → Risen (width_list l.widths) bias page l.n l.last l.bits l.k

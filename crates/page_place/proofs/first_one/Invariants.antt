-- `page_place::first_one`: the search so far is the search from record i on. Assumes nothing.
use Rattle.std.proofs.Common.{◌≡◌, ◌-◌}
use Rattle.shape.specs.Shape.{width_list}
use Rattle.page_place.specs.Find.{first_one}
use Rattle.page_place.proofs.first_one.Given as goal

abbrev pub invariant-loop-i : goal.invariant-loop-i
invariant-loop-i l =
    first_one (width_list l.widths) l.bias l.g l.page l.n 0 ≡ first_one (width_list l.widths) l.bias l.g l.page (l.n - l.i) l.i

-- `address_formula::locate` meets its contract: no pair is the zero vector. Assumes nothing.
use mathlib.Core.Path.{sym, ◌∙◌}
use Rattle.shape.specs.Shape.{width_list}
use Rattle.address_formula.specs.Index.{index_list}
use Rattle.address_formula.proofs.LatestPairLaws.{address-latest_pair-zero}
use borrow.Author.Rules.{rules}
use Rattle.address_formula.proofs.locate.Statement.{statement}
use Rattle.address_formula.proofs.locate.Tie as tie

latest-pair-requires : tie.Need-latest_pair-latest-requires
latest-pair-requires c κs = search rules

returns : tie.Need-returns-then-latest-eq0
returns c =
    let s = c.args in
    sym
    (address-latest_pair-zero (width_list s.widths) (index_list s.index)
    (sym c.latest_pair-latest.ensures.0 ∙ c.if-latest-eq0.true))

sub-address-before : tie.Need-overflow_sub-latest
sub-address-before c = search rules

address-before-requires : tie.Need-address_before-requires
address-before-requires c κs = search rules

returns-2 : tie.Need-returns
returns-2 c = search rules

pub locate_spec : {M : Type 1} → statement M
locate_spec =
    tie.close
    (tie.spec latest-pair-requires returns sub-address-before address-before-requires returns-2)

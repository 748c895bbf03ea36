-- `change_guard::leaf_whole` meets its contract: the widths are the shape's. Assumes nothing.
use mathlib.Core.Path.{subst}
use borrow.Author.Rules.{rules}
use Rattle.shape.specs.Shape.{width_list}
use Rattle.split.specs.Bits.{split_bit}
use Rattle.directory_lent.proofs.FitLaws.{directory_fits}
use Rattle.directory_tests.specs.Intact.{RegionTold}
use native.Mathlib.Omega.{arith}
use Rattle.change_guard.proofs.leaf_whole.Statement.{statement}
use Rattle.change_guard.proofs.leaf_whole.Tie as tie

widths-of-requires : tie.Need-widths_of-widths-requires
widths-of-requires c κs = search rules

cast-region-holds : tie.Need-overflow_cast-state
cast-region-holds c = search rules

region-holds-requires : tie.Need-region_holds-requires
region-holds-requires c κs =
    let w = c.widths_of-widths in
    (directory_fits c.args.state (width_list w.result) w.ensures _ _ c.requires.0 (omega arith), c.requires.1)

returns : tie.Need-returns
returns c =
    let a = c.args in
    subst
    (λ ws. RegionTold ws a.state.deepest a.x (split_bit ws a.encoded) a.word a.dir.now
    c.region_holds.result) c.widths_of-widths.ensures c.region_holds.ensures

pub leaf_whole_spec : {M : Type 1} → statement M
leaf_whole_spec =
    tie.close (tie.spec widths-of-requires cast-region-holds region-holds-requires returns)

-- `change_guard::sibling_whole` meets its contract: the widths are the shape's. Assumes nothing.
use Prim.Native.Nat.{suc}
use mathlib.Core.Path.{subst}
use borrow.Author.Rules.{rules}
use Rattle.shape.specs.Shape.{width_list}
use Rattle.split.specs.Bits.{split_bit}
use Rattle.region.specs.Strings.{sibling}
use Rattle.directory_lent.proofs.FitLaws.{directory_fits}
use Rattle.directory_tests.specs.Intact.{RegionTold}
use native.Mathlib.Omega.{arith}
use Rattle.change_guard.proofs.sibling_whole.Statement.{statement}
use Rattle.change_guard.proofs.sibling_whole.Tie as tie

widths-of-requires : tie.Need-widths_of-widths-requires
widths-of-requires c κs = search rules

cast-sibling-holds : tie.Need-overflow_cast-state
cast-sibling-holds c = search rules

sibling-holds-requires : tie.Need-sibling_holds-requires
sibling-holds-requires c κs =
    let w = c.widths_of-widths in
    (directory_fits c.args.state (width_list w.result) w.ensures _ _ c.requires.0 (omega arith), c.requires.1)

returns : tie.Need-returns
returns c =
    let a = c.args in
    subst
    (λ ws. RegionTold ws a.state.deepest (suc a.z) (sibling (split_bit ws a.encoded) a.z) a.word
    a.dir.now c.sibling_holds.result) c.widths_of-widths.ensures c.sibling_holds.ensures

pub sibling_whole_spec : {M : Type 1} → statement M
sibling_whole_spec =
    tie.close (tie.spec widths-of-requires cast-sibling-holds sibling-holds-requires returns)

-- `change_guard::halving_whole` meets its contract: the widths are the shape's. Assumes nothing.
use mathlib.Core.Path.{subst}
use borrow.Author.Rules.{rules}
use Rattle.shape.specs.Shape.{width_list}
use Rattle.split.specs.Bits.{split_bit}
use Rattle.directory_lent.proofs.FitLaws.{directory_fits}
use Rattle.directory_tests.specs.Intact.{FoldTold}
use native.Mathlib.Omega.{arith}
use Rattle.change_guard.proofs.halving_whole.Statement.{statement}
use Rattle.change_guard.proofs.halving_whole.Tie as tie

widths-of-requires : tie.Need-widths_of-widths-requires
widths-of-requires c κs = search rules

cast-folds : tie.Need-overflow_cast-state
cast-folds c = search rules

folds-requires : tie.Need-folds-requires
folds-requires c κs =
    let w = c.widths_of-widths in
    (directory_fits c.args.state (width_list w.result) w.ensures _ _ c.requires.0 (omega arith), c.requires.1)

returns : tie.Need-returns
returns c =
    let a = c.args in
    subst
    (λ ws. FoldTold ws a.u a.state.deepest (split_bit ws a.encoded) a.dir.now
    c.folds.result) c.widths_of-widths.ensures c.folds.ensures

pub halving_whole_spec : {M : Type 1} → statement M
halving_whole_spec =
    tie.close (tie.spec widths-of-requires cast-folds folds-requires returns)

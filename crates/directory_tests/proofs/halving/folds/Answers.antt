-- One step more, or the step at which a word differs. Assumes nothing.
use Rattle.std.proofs.Common.{arith}
use lib.Pow.{pow_mono}
use Rattle.directory.proofs.RegionLaws.{fits-steps}
use Rattle.directory_tests.proofs.FoldLaws.{folds-suc, fold_told-no}
use Rattle.directory_tests.proofs.halving.folds.Goals as goal

pub step_folds-requires : goal.step_folds-requires
step_folds-requires c =
    let f = c.requires.0 in
    record { fit = f.fit; deep = omega arith; short = omega arith; room = grind (arith, pow_mono) }

pub returns-then-not-step_folds : goal.returns-then-not-step_folds
returns-then-not-step_folds c =
    let w = c.args.widths in
    fold_told-no _ c.requires.0.fit _ _ _ _ _ c.loop-s.invariant c.loop-s.auto.s c.loop-s-test.true
    (fits-steps w.w0 w.w1 w.w2 w.w3 _ _ c.requires.0) _ c.locate_cell-own.ensures _ c.step_folds.ensures
    c.if-not-step_folds.true

pub loop-s-preserved : goal.loop-s-preserved
loop-s-preserved c =
    let w = c.args.widths in
    folds-suc _ c.requires.0.fit _ _ _ _ _ c.loop-s.invariant c.loop-s.auto.s c.loop-s-test.true
    (fits-steps w.w0 w.w1 w.w2 w.w3 _ _ c.requires.0) _ c.locate_cell-own.ensures _ c.step_folds.ensures
    c.if-not-step_folds.false

-- 1 << s is 2^s, and a cell's own address is below it. Assumes nothing.
use Rattle.std.proofs.Common.{suc, arith}
use lib.Pow.{pow_mono}
use Rattle.lists.proofs.Shifts.{one_shifted}
use Rattle.pairs.proofs.PlaceLaws.{step_pair-lt}
use Rattle.directory.proofs.DoublingLaws.{upper_half-lt}
use Rattle.directory_tests.proofs.FoldLaws.{folded_to-none, folded_to-suc, step_told-yes, step_told-no}
use Rattle.directory_tests.proofs.halving.step_folds.Goals as goal

pub loop-a-init : goal.loop-a-init
loop-a-init c =
    let deep = step_pair-lt _ c.args.s _ c.step_place-g.ensures c.requires.fit in
    rw (one_shifted c.args.s (omega arith)) (folded_to-none _ c.requires.fit c.args.s _ deep _)

pub pair_folds-requires : goal.pair_folds-requires
pair_folds-requires c =
    let deep = step_pair-lt _ c.args.s _ c.step_place-g.ensures c.requires.fit in
    let low = upper_half-lt _ c.requires.fit c.args.s deep _ _ c.whole_of-whole.ensures in
    let short = pow_mono {i = suc c.args.s} {j = 12} c.requires.short in
    let size = one_shifted c.args.s (omega arith) in
    (omega arith, omega arith, omega arith, omega arith)

pub returns-then-not-pair_folds : goal.returns-then-not-pair_folds
returns-then-not-pair_folds c =
    let deep = step_pair-lt _ c.args.s _ c.step_place-g.ensures c.requires.fit in
    step_told-no _ c.requires.fit c.args.s _ deep _ _ _ c.whole_of-whole.ensures _ c.if-not-pair_folds.true
    c.pair_folds.ensures

pub loop-a-preserved : goal.loop-a-preserved
loop-a-preserved c =
    let deep = step_pair-lt _ c.args.s _ c.step_place-g.ensures c.requires.fit in
    folded_to-suc _ c.requires.fit c.args.s _ deep _ _ c.loop-a.invariant _ (omega (arith, one_shifted c.args.s))
    c.whole_of-whole.ensures _ c.if-not-pair_folds.false c.pair_folds.ensures

pub returns : goal.returns
returns c =
    let deep = step_pair-lt _ c.args.s _ c.step_place-g.ensures c.requires.fit in
    step_told-yes _ c.requires.fit c.args.s _ deep _ _ c.loop-a.invariant (omega (arith, one_shifted c.args.s))

-- The first and the last vector of each block, and the region once it is looked at. Assumes nothing.
use Rattle.directory.proofs.RegionLaws.{fits-steps, filled_to-start, filled_to-suc, first_small, last-small, block-fits}
use Rattle.directory_tests.proofs.HeldLaws.{block_filled, blocks_told-yes, blocks_told-no}
use Rattle.directory_tests.proofs.regions.blocks_hold.Goals as goal

pub loop-y-init : goal.loop-y-init
loop-y-init c = filled_to-start _ _ _ _ _ _ _ c.requires

pub with_bit-first-requires : goal.with_bit-first-requires
with_bit-first-requires c =
    let pair = c.step_from-step.ensures in
    (pair.low, first_small _ _ _ _ _ _ _ c.requires _ _ _ _ c.loop-y.invariant _ pair)

pub with_bit-last-requires : goal.with_bit-last-requires
with_bit-last-requires c =
    let pair = c.step_from-step.ensures in
    (pair.low, last-small _ _ _ _ _ _ _ c.requires _ _ _ _ c.loop-y.invariant _ pair)

pub block_holds-requires : goal.block_holds-requires
block_holds-requires c =
    block-fits _ _ _ _ _ _ _ c.requires _ _ _ _ c.loop-y.invariant _ c.step_from-step.ensures c.loop-y-test.true _ _
    c.with_bit-first.ensures c.with_bit-last.ensures

pub returns-then-not-block_holds : goal.returns-then-not-block_holds
returns-then-not-block_holds c =
    let w = c.args.widths in
    blocks_told-no _ _ _ _ _ _ _ c.requires (fits-steps w.w0 w.w1 w.w2 w.w3 _ _ c.requires.fits) _ _ _
    c.loop-y.invariant _ c.step_from-step.ensures c.loop-y-test.true _ _ c.with_bit-first.ensures
    c.with_bit-last.ensures _ c.if-not-block_holds.true c.block_holds.ensures

pub loop-y-preserved : goal.loop-y-preserved
loop-y-preserved c =
    filled_to-suc _ _ _ _ _ _ _ c.requires _ _ _ _ c.loop-y.invariant _ c.step_from-step.ensures c.loop-y-test.true _ _
    c.with_bit-first.ensures c.with_bit-last.ensures _
    (block_filled _ _ _ _ _ _ c.if-not-block_holds.false c.block_holds.ensures)

pub returns : goal.returns
returns c =
    let w = c.args.widths in
    blocks_told-yes _ _ _ _ _ _ _ c.requires (fits-steps w.w0 w.w1 w.w2 w.w3 _ _ c.requires.fits) _ _ _
    c.loop-y.invariant c.loop-y-test.false

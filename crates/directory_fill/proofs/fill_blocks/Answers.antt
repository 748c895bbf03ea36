-- The first and the last vector of each block, and the region once it is set. Assumes nothing.
use Rattle.directory.proofs.RegionLaws.{filled_to-start, filled_to-suc, first_small, last-small, block-fits}
use Rattle.directory_fill.proofs.fill_blocks.Goals as goal

pub loop-y-init : goal.loop-y-init
loop-y-init c = filled_to-start _ _ _ _ _ _ _ c.requires

pub with_bit-first-requires : goal.with_bit-first-requires
with_bit-first-requires c =
    let pair = c.step_from-step.ensures in
    (pair.low, first_small _ _ _ _ _ _ _ c.requires _ _ _ _ c.loop-y.invariant _ pair)

pub with_bit-last-requires : goal.with_bit-last-requires
with_bit-last-requires c =
    let pair = c.step_from-step.ensures in
    (pair.low, last-small _ _ _ _ _ _ _ c.requires _ _ _ _ c.loop-y.invariant _ pair)

pub fill_block-requires : goal.fill_block-requires
fill_block-requires c =
    block-fits _ _ _ _ _ _ _ c.requires _ _ _ _ c.loop-y.invariant _ c.step_from-step.ensures c.loop-y-test.true _ _
    c.with_bit-first.ensures c.with_bit-last.ensures

pub loop-y-preserved : goal.loop-y-preserved
loop-y-preserved c =
    filled_to-suc _ _ _ _ _ _ _ c.requires _ _ _ _ c.loop-y.invariant _ c.step_from-step.ensures c.loop-y-test.true _ _
    c.with_bit-first.ensures c.with_bit-last.ensures _ c.fill_block.ensures

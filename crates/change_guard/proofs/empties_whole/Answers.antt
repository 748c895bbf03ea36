-- One sibling more, or the one that is not empty. Assumes nothing.
use Rattle.std.proofs.Common.{arith}
use Rattle.change_guard.proofs.JoinLaws.{empty_to-suc, empties_told-no}
use Rattle.change_guard.proofs.empties_whole.Goals as goal

pub returns-then-not-sibling_whole : goal.returns-then-not-sibling_whole
returns-then-not-sibling_whole c =
    empties_told-no _ _ _ _ _ _ c.loop-z.auto.z c.loop-z-test.true _ c.pack_empty-word.ensures _
    c.sibling_whole.ensures c.if-not-sibling_whole.true

pub loop-z-preserved : goal.loop-z-preserved
loop-z-preserved c =
    empty_to-suc c.args.state _ _ c.args.m _ _ c.loop-z.auto.z c.loop-z-test.true _ c.pack_empty-word.ensures _
    c.sibling_whole.ensures c.loop-z.invariant c.if-not-sibling_whole.false

pub returns : goal.returns
returns c = record { yes = λ e i a b. c.loop-z.invariant i a (omega arith); no = λ e all. cc }

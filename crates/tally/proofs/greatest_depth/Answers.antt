use Rattle.std.proofs.Common.{◌≡◌, ◌-◌, arith, sym, ◌∙◌}
use Rattle.change.specs.Delete.{tally_depth}
use Rattle.tally.proofs.CountLaws.{tally_depth-some, tally_depth-none}
use Rattle.tally.proofs.greatest_depth.Goals as goal

pub returns-then-leaves-x-ne0 : goal.returns-then-leaves-x-ne0
returns-then-leaves-x-ne0 c =
    sym (tally_depth-some c.args.tally.leaves (c.loop-x.x - 1) (omega arith) c.if-leaves-x-ne0.true)
    ∙ c.loop-x.invariant.1

pub loop-x-preserved : goal.loop-x-preserved
loop-x-preserved c = (
  omega arith,
  sym (tally_depth-none c.args.tally.leaves (c.loop-x.x - 1) (omega arith) c.if-leaves-x-ne0.false)
      ∙ c.loop-x.invariant.1,
)

pub returns : goal.returns
unfolding tally_depth
returns c = let end : c.loop-x.x - 1 ≡ 0 = omega arith in rw end at c.loop-x.invariant.1

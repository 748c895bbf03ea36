use Rattle.std.proofs.Common.{◌≡◌, ◌+◌, ◌-◌, get_or, arith, ap, ◌∙◌}
use Rattle.change.specs.Divided.{divided_tally}
use Rattle.tally.proofs.CountLaws.{small-of-tally_holds, get_d-divided_once-past, divided_tally-next}
use Rattle.tally.proofs.divide.Goals as goal

pub divide_once-divided-requires : goal.divide_once-divided-requires
divide_once-divided-requires c =
    let next = c.loop-y.y + 1 in (
      omega arith,
      omega (
        arith,
        c.loop-y.invariant.1 next (omega arith),
        small-of-tally_holds c.args.tally.leaves c.requires.1 next (omega arith),
      ),
    )

pub loop-y-preserved : goal.loop-y-preserved
loop-y-preserved c =
    let y = c.loop-y.y in
    let end = c.args.x + c.args.n in
    let leaves = c.loop-y.divided.leaves in
    let once = c.divide_once-divided.ensures in (
      ap (divided_tally (y + 1) (end - (y + 1))) once
          ∙ divided_tally-next leaves y end (omega arith)
          ∙ c.loop-y.invariant.0,
      λ z l. ap (λ ys. get_or ys z 0) once
          ∙ get_d-divided_once-past leaves y z (omega arith)
          ∙ c.loop-y.invariant.1 z (omega arith),
    )

pub returns : goal.returns
unfolding divided_tally
returns c = let end : c.args.x + c.args.n - c.loop-y.y ≡ 0 = omega arith in rw end at c.loop-y.invariant.0

use Rattle.std.proofs.Common.{◌≡◌, ◌+◌, ◌-◌, suc, get_or, arith, refl, ap, ◌∙◌}
use Rattle.change.specs.Delete.{joined_once, joined_tally}
use Rattle.change.proofs.DeleteTallyLaws.{get_d-joined_tally-above}
use Rattle.tally.proofs.CountLaws.{small-of-tally_holds, joined_tally-next}
use Rattle.tally.proofs.join.Goals as goal

pub loop-y-init : goal.loop-y-init
unfolding joined_tally
loop-y-init c =
    let none : c.args.x + c.args.n - (c.args.x + c.args.n) ≡ 0 = omega arith in (omega arith, rw none refl)

pub join_once-joined-requires : goal.join_once-joined-requires
join_once-joined-requires c =
    let leaves = c.args.tally.leaves in
    let above = c.loop-y.y in
    let y = above - 1 in (
      omega arith,
      omega (
        arith,
        ap (λ ys. get_or ys y 0) c.loop-y.invariant.1,
        get_d-joined_tally-above above (c.args.x + c.args.n - above) leaves y (omega arith),
        small-of-tally_holds leaves c.requires.1 y (omega arith),
      ),
    )

pub loop-y-preserved : goal.loop-y-preserved
loop-y-preserved c =
    let y = c.loop-y.y - 1 in
    let next : suc y ≡ c.loop-y.y = omega arith in (
      omega arith,
      c.join_once-joined.ensures
          ∙ ap (joined_once y) (c.loop-y.invariant.1 ∙ rw next refl)
          ∙ joined_tally-next c.args.tally.leaves c.args.x c.args.n y (omega arith),
    )

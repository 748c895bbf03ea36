-- No step at g: the search goes on. A step is left, so that it ends before the pairs do.
use Rattle.std.proofs.Common.{◌/◌, ◌≤◌, subst, arith}
use Rattle.pairs.proofs.PlaceLaws.{steps_before-skip, steps_before-lt}
use Rattle.pairs.proofs.step_from.Goals as goal

pub loop-g-preserved : goal.loop-g-preserved
loop-g-preserved c =
    let g = c.loop-g.g in
    steps_before-skip _ _ g c.loop-g.invariant c.loop-g-test.true
    (subst (λ x. x ≤ g / 4) c.width_at.ensures c.if-g-width_at.false)

pub returns : goal.returns
returns c =
    let w = c.args.widths in
    let next = steps_before-lt w.w0 w.w1 w.w2 w.w3 c.args.t c.loop-g.g c.requires.0 c.requires.1 c.loop-g.invariant in
    absurd (omega arith)

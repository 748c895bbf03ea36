-- A place has a step or none. With fewer than t steps before it one is left, so that it is before the last.
use Rattle.std.proofs.Common.{◌≡◌, ◌/◌, ◌<◌, ◌≤◌, subst, arith}
use Rattle.pairs.proofs.PlaceLaws.{steps_before-step, steps_before-skip, steps_before-lt}
use Rattle.pairs.proofs.place_from.Goals as goal
use Rattle.pairs.proofs.place_from.Goals.{then-g-width_at, else-g-width_at}

pub loop-g-preserved : goal.loop-g-preserved
loop-g-preserved c =
    let l = c.loop-g in
    let width = c.width_at.ensures in
    let low = c.loop-g-test.true in
    elim c.if-g-width_at.branch [
      | then-g-width_at w ↦ rw w.before-is (
        omega arith,
        steps_before-step _ l.before l.g l.invariant.1 low (subst (λ x. l.g / 4 < x) width w.if-g-width_at.true),
      )
      | else-g-width_at w ↦ rw w.before-is (
        l.invariant.0,
        steps_before-skip _ l.before l.g l.invariant.1 low (subst (λ x. x ≤ l.g / 4) width w.if-g-width_at.false),
      )
    ]

pub returns : goal.returns
returns c =
    let l = c.loop-g in
    let w = c.args.widths in
    let left : l.before < c.args.t → l.g < 64 = λ h.
    steps_before-lt w.w0 w.w1 w.w2 w.w3 l.before l.g c.requires.0 (omega (arith, h, c.requires.1)) l.invariant.1 in
    let all : l.before ≡ c.args.t = grind (arith, left) in
    let end : l.g ≡ 64 = omega (arith, l.invariant.1.low) in
    rw (← all, ← end) l.invariant.1

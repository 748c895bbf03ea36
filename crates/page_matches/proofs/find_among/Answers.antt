use Rattle.std.proofs.Common.{◌≡◌, ◌-◌, arith, sym, ap, ◌∙◌}
use Rattle.page_matches.specs.KeyPlace.{key_place}
use Rattle.page_matches.proofs.PlaceLaws.{key_place-below-same, key_place-below-other}
use Rattle.page_matches.proofs.find_among.Goals as goal

pub loop-i-init : goal.loop-i-init
unfolding key_place
loop-i-init c =
    let none : c.args.k - c.args.k ≡ 0 = omega arith in
    sym (ap (λ m. key_place c.args.key c.args.page.now m c.args.k) none)

pub loop-i-preserved-then-key_at-key : goal.loop-i-preserved-then-key_at-key
loop-i-preserved-then-key_at-key c =
    let a = c.args in
    key_place-below-same a.key a.page.now a.k c.loop-i.i _ (omega arith) (omega arith) c.key_at.ensures
    c.if-key_at-key.true

pub loop-i-preserved : goal.loop-i-preserved
loop-i-preserved c =
    let a = c.args in
    c.loop-i.invariant
    ∙ key_place-below-other a.key a.page.now a.k c.loop-i.i _ (omega arith) (omega arith) c.key_at.ensures
    c.if-key_at-key.false

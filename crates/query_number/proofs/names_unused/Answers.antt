-- One attribute that is not allowed is enough.
use Rattle.std.proofs.Common.{◌≡◌, ◌||◌, not, ltb, get_or, sym, ap, ◌∙◌, add-one, arith}
use Rattle.std.proofs.Math.Option.{none}
use Rattle.shape.specs.Key.{wanted_values, is_given, names_unused}
use Rattle.shape.proofs.BoundsLaws.{all_below-suc, all_below-fails}
use Rattle.query_number.proofs.names_unused.Goals as goal

pub returns-then-not-allowed_at : goal.returns-then-not-allowed_at
unfolding names_unused
returns-then-not-allowed_at c =
    sym
    (ap not
    (all_below-fails (λ i. ltb i c.args.shape.attributes || not (is_given (get_or (wanted_values c.args.query) i none))) 4
    c.loop-j.j c.loop-j-test.true (sym c.allowed_at.ensures ∙ c.if-not-allowed_at.true)))

pub loop-j-preserved : goal.loop-j-preserved
loop-j-preserved c =
    rw (add-one c.loop-j.j)
    (all_below-suc _ c.loop-j.j c.loop-j.invariant (sym c.allowed_at.ensures ∙ c.if-not-allowed_at.false))

pub returns : goal.returns
unfolding names_unused
returns c =
    let end : c.loop-j.j ≡ 4 = omega arith in
    sym (ap not (rw end at c.loop-j.invariant))

-- `page_place::find` meets its contract: the record in the middle is the new `high`, or the one just below the new
-- `low`. Assumes nothing.
use Rattle.std.proofs.Common.{◌≡◌, ◌+◌, ◌-◌, ◌/◌, ◌<◌, sym, ap, ◌∙◌, subst, arith}
use Rattle.std.specs.declared.cmp.Ordering.TheVariants.{Less, Greater}
use Rattle.shape.specs.Shape.{width_list}
use Rattle.record.specs.Packed.{unpacked_key}
use Rattle.key_order.specs.Order.{compared}
use Rattle.page_place.specs.Find.{order_to}
use Rattle.page_place.proofs.find.Goals as goal

pub loop-low-preserved : goal.loop-low-preserved
loop-low-preserved c =
    let loop = c.loop-low in
    let a = c.args in
    let mid = loop.low + (loop.high - loop.low) / 2 in
    let ws = width_list a.widths in
    let key = unpacked_key a.key in
    let after : order_to ws a.bias key a.page.now mid ≡ Greater =
    sym (c.in-Greater.ensures ∙ ap (λ k. compared ws key (unpacked_key k)) c.code_at.ensures) in
    record {
      ordered = omega arith;
      within = omega arith;
      behind = λ k e. let same : mid ≡ k = omega arith in subst (λ i. order_to ws a.bias key a.page.now i ≡ Greater) same after;
      before = loop.invariant.before;
    }

pub returns : goal.returns
returns c =
    let loop = c.loop-low in
    let a = c.args in
    let met : loop.high ≡ loop.low = omega arith in (
      omega arith,
      loop.invariant.behind,
      subst (λ i. i < a.n → order_to (width_list a.widths) a.bias (unpacked_key a.key) a.page.now i ≡ Less) met
          loop.invariant.before,
    )

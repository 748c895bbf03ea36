-- `page_place::first_one` meets its contract: a turn of the search. Assumes nothing.
use Rattle.std.proofs.Common.{◌≡◌, sym, ◌∙◌, arith}
use Rattle.page_place.proofs.OneLaws.{first_one-end, first_one-here, first_one-next}
use Rattle.page_place.proofs.first_one.Goals as goal

pub returns-then-pair_bit : goal.returns-then-pair_bit
returns-then-pair_bit c =
    sym
    (c.loop-i.invariant
    ∙ first_one-here _ _ _ _ _ c.loop-i.i c.loop-i-test.true _ c.code_at.ensures c.if-pair_bit.ensures)

pub loop-i-preserved : goal.loop-i-preserved
loop-i-preserved c =
    c.loop-i.invariant
    ∙ first_one-next _ _ _ _ _ c.loop-i.i c.loop-i-test.true _ c.code_at.ensures c.if-pair_bit.ensures

pub returns : goal.returns
returns c =
    let met : c.loop-i.i ≡ c.args.n = omega arith in
    sym (c.loop-i.invariant ∙ first_one-end _ _ _ _ _ c.loop-i.i c.loop-i-test.false ∙ met)

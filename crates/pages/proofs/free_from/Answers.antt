use Rattle.std.proofs.Common.{arith, sym, ◌∙◌}
use Rattle.pages.proofs.FreeLaws.{first_free-end, first_free-here, first_free-next}
use Rattle.pages.proofs.free_from.Goals as goal

pub returns-then-count_at-eq0 : goal.returns-then-count_at-eq0
returns-then-count_at-eq0 c =
    let a = c.args in
    let free = sym c.count_at.ensures.0 ∙ c.if-count_at-eq0.true in
    sym (c.loop-p.invariant.1 ∙ first_free-here a.capacity a.pages.now a.n c.loop-p.p (omega arith) free)

pub loop-p-preserved : goal.loop-p-preserved
loop-p-preserved c =
    let a = c.args in
    let next = first_free-next a.capacity a.pages.now a.n c.loop-p.p (omega arith)
    (λ z. c.if-count_at-eq0.false (c.count_at.ensures.0 ∙ z)) in
    (omega arith, c.loop-p.invariant.1 ∙ next)

pub returns : goal.returns
returns c =
    let a = c.args in
    omega (arith, first_free-end a.capacity a.pages.now a.n c.loop-p.p (omega arith))

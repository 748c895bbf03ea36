-- Each way that the call ends is a law of the answer.
use Rattle.std.proofs.Common.{◌≡◌, ◌^◌, ltb, sym, ap, ◌∙◌}
use borrow.Author.Tests.{ltb-true}
use Rattle.std.proofs.lemmas.Result.{err_from_is_err_and}
use Rattle.shape.specs.Shape.{width_list, total}
use Rattle.shape.proofs.ShapeLaws.{widths-fit}
use Rattle.shape.proofs.TestLaws.{passed-shape}
use Rattle.address_formula.specs.Index.{index_list}
use Rattle.address_calls.proofs.AnswerLaws.{index_answer-shape-out, index_answer-address-out, index_answer-index}
use Rattle.address_inverse.proofs.InverseLaws.{get_d-index_at}
use Rattle.address_calls.proofs.index_at.Goals as goal
use Rattle.address_calls.proofs.index_at.Goals.{After-address_fits}

-- the test of the address, by the sum of the widths
test : (c : After-address_fits)
    → ltb c.args.address (2 ^ total (width_list c.widths_of-widths.result)) ≡ c.address_fits.result
test c = ap (λ t. ltb c.args.address (2 ^ t)) (sym c.total_of.ensures.0) ∙ sym c.address_fits.ensures

pub returns-in_err-validate : goal.returns-in_err-validate
returns-in_err-validate c =
    let a = c.args in
    let p = err_from_is_err_and c.from_residual.result c.from_residual.ensures.1 in
    rw (p.1, p.2) (index_answer-shape-out a.shape _ c.in_err-validate.ensures a.address)

pub total_of-requires : goal.total_of-requires
total_of-requires c =
    let s = c.args.shape in
    widths-fit s (width_list c.widths_of-widths.result) (passed-shape tt tt s c.in_ok-validate.ensures)
    c.widths_of-widths.ensures

pub returns-then-not-address_fits : goal.returns-then-not-address_fits
returns-then-not-address_fits c =
    let s = c.args.shape in
    index_answer-address-out s (width_list c.widths_of-widths.result) (passed-shape tt tt s c.in_ok-validate.ensures)
    c.widths_of-widths.ensures c.args.address (test c.before ∙ c.if-not-address_fits.true)

pub vector_at-requires : goal.vector_at-requires
vector_at-requires c =
    let s = c.args.shape in (
      widths-fit s (width_list c.widths_of-widths.result) (passed-shape tt tt s c.in_ok-validate.ensures)
          c.widths_of-widths.ensures,
      ltb-true _ _ (test c.before ∙ c.if-not-address_fits.false),
    )

pub returns : goal.returns
returns c =
    let ws = c.widths_of-widths.result in
    let s = c.args.shape in
    let v = c.vector_at.result in
    let good = passed-shape tt tt s c.in_ok-validate.ensures in
    index_answer-index s (width_list ws) good c.widths_of-widths.ensures c.args.address (index_list v)
    (test c.before.before ∙ c.if-not-address_fits.false)
    (get_d-index_at ws.w0 ws.w1 ws.w2 ws.w3 c.args.address v.i0 v.i1 v.i2 v.i3
    (widths-fit s (width_list ws) good c.widths_of-widths.ensures) c.vector_at.ensures)

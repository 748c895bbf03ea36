-- Each way that the call ends is a law of the answer.
use Rattle.std.proofs.Common.{sym, ◌∙◌}
use Rattle.std.proofs.lemmas.Result.{err_from_is_err_and}
use Rattle.shape.specs.Shape.{width_list}
use Rattle.shape.proofs.ShapeLaws.{index_fits-below, widths-fit}
use Rattle.shape.proofs.TestLaws.{passed-shape}
use Rattle.address_formula.specs.Index.{index_list}
use Rattle.address_calls.proofs.AnswerLaws.{address_answer-shape-out}
use Rattle.address_calls.proofs.AnswerLaws.{address_answer-index-out, address_answer-address}
use Rattle.address_calls.proofs.address_of.Goals as goal

pub returns-in_err-validate : goal.returns-in_err-validate
returns-in_err-validate c =
    let a = c.args in
    let p = err_from_is_err_and c.from_residual.result c.from_residual.ensures.1 in
    rw (p.1, p.2) (address_answer-shape-out a.shape _ c.in_err-validate.ensures (index_list a.index))

pub index_fits-requires : goal.index_fits-requires
index_fits-requires c =
    let s = c.args.shape in
    widths-fit s (width_list c.widths_of-widths.result) (passed-shape tt tt s c.in_ok-validate.ensures)
    c.widths_of-widths.ensures

pub returns-then-not-index_fits : goal.returns-then-not-index_fits
returns-then-not-index_fits c =
    let s = c.args.shape in
    address_answer-index-out s (width_list c.widths_of-widths.result) (passed-shape tt tt s c.in_ok-validate.ensures)
    c.widths_of-widths.ensures (index_list c.args.index) (sym c.index_fits.ensures ∙ c.if-not-index_fits.true)

pub locate-requires : goal.locate-requires
locate-requires c =
    let s = c.args.shape in
    let ws = width_list c.widths_of-widths.result in
    record {
      fit = widths-fit s ws (passed-shape tt tt s c.in_ok-validate.ensures) c.widths_of-widths.ensures;
      below = index_fits-below ws (index_list c.args.index) (sym c.index_fits.ensures ∙ c.if-not-index_fits.false);
    }

pub returns : goal.returns
returns c =
    let s = c.args.shape in
    address_answer-address s (width_list c.widths_of-widths.result) (passed-shape tt tt s c.in_ok-validate.ensures)
    c.widths_of-widths.ensures (index_list c.args.index) c.locate.result
    (sym c.index_fits.ensures ∙ c.if-not-index_fits.false) c.locate.ensures

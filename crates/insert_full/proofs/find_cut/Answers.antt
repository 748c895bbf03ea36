-- The part that is lent is the leaf's page, and each way that it ends is a law of the cut.
use Rattle.std.proofs.Common.{◌/◌, ◌%◌, ◌<◌, length, sym, ap, ◌∙◌, subst, arith}
use lib.ListN.{get_or}
use Rattle.shape.proofs.ShapeLaws.{capacity-bounds, widths-fit}
use Rattle.page.proofs.PartLaws.{mid_of-page, length-page_at}
use Rattle.store.specs.Store.{store}
use Rattle.insert_planned.proofs.SplitLaws.{nine-half, full-found}
use Rattle.insert_full.proofs.find_cut.Goals as goal

pub half_of-half-requires-clause-le_n : goal.half_of-half-requires-clause-le_n
half_of-half-requires-clause-le_n c =
    let st = c.args.state in
    let lent = c.requires.pages_lent in
    let b = capacity-bounds st.shape lent.0.shape in
    let whole = ap length
    (mid_of-page st.shape.capacity c.args.split.page _ _ c.args.pages.now c.page_start-start.ensures c.page_size.ensures)
    ∙ length-page_at st.shape.capacity c.args.split.page c.args.pages.now lent.1.whole in
    (b.0, b.1, omega (arith, whole), widths-fit st.shape _ lent.0.shape c.widths_of.ensures)

pub half_of-half-requires-clause-pair_bound : goal.half_of-half-requires-clause-pair_bound
half_of-half-requires-clause-pair_bound c =
    let pair = c.args.split.pair in
    let bound = c.requires.pair_bound in
    (bound.0, subst (λ ws. pair / 4 < get_or ws (pair % 4) 0) (sym c.widths_of.ensures) bound.1)

pub returns-in_default : goal.returns-in_default
returns-in_default c words encoded m =
    let a = c.args in
    nine-half (store a.state words a.pages.now) encoded a.key a.split m _ _ _ c.widths_of.ensures
    (mid_of-page a.state.shape.capacity a.split.page _ _ a.pages.now c.page_start-start.ensures c.page_size.ensures)
    c.bias_key.ensures c.half_of-half.result c.half_of-half.ensures c.in_default.is

pub returns : goal.returns
returns c words encoded m =
    let a = c.args in
    full-found (store a.state words a.pages.now) encoded a.key a.split m _ _ _ c.widths_of.ensures
    (mid_of-page a.state.shape.capacity a.split.page _ _ a.pages.now c.page_start-start.ensures c.page_size.ensures)
    c.bias_key.ensures c.half_of-half.result c.half_of-half.ensures _ c.in-Some.is

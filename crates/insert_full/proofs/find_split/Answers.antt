-- The part that is lent is the leaf's page, and each way that it ends is a law of the first and the last of its keys and
-- the new one.
use Rattle.std.proofs.Common.{◌/◌, ◌%◌, ◌<◌, length, refl, sym, ap, ◌∙◌, subst, arith}
use lib.ListN.{get_or}
use Rattle.shape.specs.Shape.{width_list}
use Rattle.shape.proofs.ShapeLaws.{capacity-bounds, widths-fit}
use Rattle.page.proofs.PartLaws.{mid_of-page, length-page_at}
use Rattle.store.specs.Store.{store}
use Rattle.insert_planned.proofs.SplitLaws.{ends-met, nine-ends, six-alike, nine-below, nine-tally}
use Rattle.insert_full.proofs.find_split.Goals as goal

pub ends_pair-pair-requires : goal.ends_pair-pair-requires
ends_pair-pair-requires c =
    let st = c.args.state in
    let b = capacity-bounds st.shape c.requires.0.shape in
    let whole = ap length
    (mid_of-page st.shape.capacity c.args.page _ _ c.args.pages.now c.page_start-start.ensures c.page_size.ensures)
    ∙ length-page_at st.shape.capacity c.args.page c.args.pages.now c.requires.1.whole in
    (b.0, b.1, omega (arith, whole), widths-fit st.shape _ c.requires.0.shape c.widths_of-widths.ensures)

pub steps_before-step-requires : goal.steps_before-step-requires
steps_before-step-requires c =
    (widths-fit c.args.state.shape _ c.requires.0.shape c.widths_of-widths.ensures, c.ends_pair-pair.ensures.most)

pub returns-then-pair-eq64 : goal.returns-then-pair-eq64
returns-then-pair-eq64 c words encoded m =
    let a = c.args in
    nine-ends (store a.state words a.pages.now) encoded m.asked _ _ _ _ _
    (ends-met (store a.state words a.pages.now) encoded a.key a.page a.depth a.i c.ends_pair-pair.result _ m
    (width_list c.widths_of-widths.result) _ _ c.widths_of-widths.ensures
    (mid_of-page a.state.shape.capacity a.page _ _ a.pages.now c.page_start-start.ensures c.page_size.ensures)
    c.bias_key-bias.ensures c.ends_pair-pair.ensures refl)
    c.if-pair-eq64.true

pub returns-then-limits-step : goal.returns-then-limits-step
returns-then-limits-step c words encoded m =
    let a = c.args in
    six-alike (store a.state words a.pages.now) encoded m.asked _ _ _ _ _
    (ends-met (store a.state words a.pages.now) encoded a.key a.page a.depth a.i c.ends_pair-pair.result _ m
    (width_list c.widths_of-widths.result) _ _ c.widths_of-widths.ensures
    (mid_of-page a.state.shape.capacity a.page _ _ a.pages.now c.page_start-start.ensures c.page_size.ensures)
    c.bias_key-bias.ensures c.ends_pair-pair.ensures (sym c.steps_before-step.ensures.before))
    (omega (arith, c.ends_pair-pair.ensures.most, c.if-pair-eq64.false)) c.if-limits-step.true

pub returns-then-step-depth : goal.returns-then-step-depth
returns-then-step-depth c words encoded m =
    let a = c.args in
    nine-below (store a.state words a.pages.now) encoded m.asked _ _ _ _ _
    (ends-met (store a.state words a.pages.now) encoded a.key a.page a.depth a.i c.ends_pair-pair.result _ m
    (width_list c.widths_of-widths.result) _ _ c.widths_of-widths.ensures
    (mid_of-page a.state.shape.capacity a.page _ _ a.pages.now c.page_start-start.ensures c.page_size.ensures)
    c.bias_key-bias.ensures c.ends_pair-pair.ensures (sym c.steps_before-step.ensures.before))
    (omega (arith, c.ends_pair-pair.ensures.most, c.if-pair-eq64.false)) c.if-step-depth.true

pub returns-then-not-tally_holds : goal.returns-then-not-tally_holds
returns-then-not-tally_holds c words encoded m =
    nine-tally (store c.args.state words c.args.pages.now) encoded
    (sym c.tally_holds.ensures ∙ c.if-not-tally_holds.true)

pub find_cut-requires-clause-pair_bound : goal.find_cut-requires-clause-pair_bound
find_cut-requires-clause-pair_bound c =
    let pair = c.ends_pair-pair.result in
    let below : pair < 64 = omega (arith, c.ends_pair-pair.ensures.most, c.if-pair-eq64.false) in (
      below,
      subst (λ ws. pair / 4 < get_or ws (pair % 4) 0) c.widths_of-widths.ensures
          (c.ends_pair-pair.ensures.step-there below),
    )

pub returns : goal.returns
returns c words encoded m =
    let a = c.args in
    c.find_cut.ensures words encoded
    (record {
      asked = m.asked;
      key-is = m.key-is;
      split-met =
          record {
            ends-met =
                ends-met (store a.state words a.pages.now) encoded a.key a.page a.depth a.i c.ends_pair-pair.result _ m
                (width_list c.widths_of-widths.result) _ _ c.widths_of-widths.ensures
                (mid_of-page a.state.shape.capacity a.page _ _ a.pages.now c.page_start-start.ensures c.page_size.ensures)
                c.bias_key-bias.ensures c.ends_pair-pair.ensures (sym c.steps_before-step.ensures.before);
            differ = omega (arith, c.ends_pair-pair.ensures.most, c.if-pair-eq64.false);
            below = omega (arith, c.if-step-depth.false);
            deep = omega (arith, c.if-limits-step.false);
            tally = sym c.tally_holds.ensures ∙ c.if-not-tally_holds.false;
          };
    })

-- `leaf_word::own_count` meets its contract: what is lent is the page, and the mask is that of the leaf's fixed bits.
-- Assumes nothing.
use mathlib.Core.Path.{ap, ◌∙◌}
use Rattle.record.specs.Lanes.{bias_key}
use Rattle.page.specs.Page.{count_of, page_at}
use Rattle.page.proofs.PartLaws.{mid_of-page}
use Rattle.page_ends.specs.Ends.{ends_agree}
use Rattle.page_ends.specs.Fair.{fair_count, positive}
use Rattle.leaf_word.proofs.PageLaws.{fixed-bits-asks, ends_agree-mask}
use borrow.Author.Rules.{rules}
use Rattle.leaf_word.proofs.own_count.Statement.{statement}
use Rattle.leaf_word.proofs.own_count.Tie as tie

widths-of-requires : tie.Need-widths_of-requires
widths-of-requires c κs = search rules

fixed-bits-requires : tie.Need-fixed_bits-mask-requires
fixed-bits-requires c κs =
    fixed-bits-asks c.args.shape c.requires.shape c.args.depth c.requires.deep _ c.widths_of.ensures

bias-key-requires : tie.Need-bias_key-bias-requires
bias-key-requires c κs = search rules

cast-capacity : tie.Need-overflow_cast-capacity
cast-capacity c = search rules

page-start-requires : tie.Need-page_start-start-requires
page-start-requires c κs = search rules

page-size-requires : tie.Need-page_size-requires
page-size-requires c κs = search rules

add-end : tie.Need-overflow_add-end
add-end c = search rules

sub-fair-count : tie.Need-slice_bounds-fair_count-count
sub-fair-count c = search rules

part-fair-count-start : tie.Need-slice_bounds-fair_count-start
part-fair-count-start c = search rules

part-fair-count-end : tie.Need-slice_bounds-fair_count-end
part-fair-count-end c = search rules

fair-count-requires : tie.Need-fair_count-requires
fair-count-requires c κs = search rules

returns : tie.Need-returns
returns c =
    let a = c.args in
    let b = a.shape.capacity in
    let page = page_at b a.pages.now a.g in
    c.fair_count.ensures
    ∙ ap positive
    (ap (λ part. fair_count b (ends_agree c.bias_key-bias.result c.fixed_bits-mask.result a.key part (count_of part)) part)
    (mid_of-page b a.g _ _ a.pages.now c.page_start-start.ensures c.page_size.ensures)
    ∙ ap (λ h. fair_count b (ends_agree h c.fixed_bits-mask.result a.key page (count_of page)) page)
    c.bias_key-bias.ensures
    ∙ ap (λ own. fair_count b own page)
    (ends_agree-mask a.shape c.requires.shape a.depth c.requires.deep _ c.widths_of.ensures
    (bias_key a.shape) _
    c.fixed_bits-mask.ensures a.key c.requires.fits page (count_of page)))

pub own_count_spec : {M : Type 1} → statement M
own_count_spec =
    tie.close
    (tie.spec
    widths-of-requires
    fixed-bits-requires
    bias-key-requires
    cast-capacity
    page-start-requires
    page-size-requires
    add-end
    sub-fair-count
    part-fair-count-start
    part-fair-count-end
    fair-count-requires
    returns)

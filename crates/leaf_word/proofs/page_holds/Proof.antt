-- `leaf_word::page_holds` meets its contract: what is lent is the page, and the mask is that of the leaf's fixed bits.
-- Assumes nothing.
use mathlib.Core.Path.{ap, ◌∙◌}
use Rattle.record.specs.Lanes.{bias_key}
use Rattle.page.specs.Page.{page_at}
use Rattle.page.proofs.PartLaws.{mid_of-page}
use Rattle.page_ends.specs.Ends.{ends_agree}
use Rattle.leaf_word.proofs.PageLaws.{fixed-bits-asks, ends_agree-mask}
use borrow.Author.Rules.{rules}
use Rattle.leaf_word.proofs.page_holds.Statement.{statement}
use Rattle.leaf_word.proofs.page_holds.Tie as tie

widths-of-requires : tie.Need-widths_of-requires
widths-of-requires c κs = search rules

fixed-bits-requires : tie.Need-fixed_bits-mask-requires
fixed-bits-requires c κs =
    fixed-bits-asks c.args.shape c.requires.shape c.args.depth c.requires.deep _ c.widths_of.ensures

bias-key-requires : tie.Need-bias_key-bias-requires
bias-key-requires c κs = search rules

cast-capacity : tie.Need-overflow_cast-capacity
cast-capacity c = search rules

page-start-requires : tie.Need-page_start-start-requires
page-start-requires c κs = search rules

page-size-requires : tie.Need-page_size-requires
page-size-requires c κs = search rules

add-end : tie.Need-overflow_add-end
add-end c = search rules

sub-ends-agree : tie.Need-slice_bounds-ends_agree-count
sub-ends-agree c = search rules

part-ends-agree-start : tie.Need-slice_bounds-ends_agree-start
part-ends-agree-start c = search rules

part-ends-agree-end : tie.Need-slice_bounds-ends_agree-end
part-ends-agree-end c = search rules

ends-agree-requires : tie.Need-ends_agree-requires
ends-agree-requires c κs = search rules

returns : tie.Need-returns
returns c =
    let a = c.args in
    let b = a.shape.capacity in
    c.ends_agree.ensures
    ∙ ap (λ page. ends_agree c.bias_key-bias.result c.fixed_bits-mask.result a.key page a.n)
    (mid_of-page b a.g _ _ a.pages.now c.page_start-start.ensures c.page_size.ensures)
    ∙ ap (λ h. ends_agree h c.fixed_bits-mask.result a.key (page_at b a.pages.now a.g) a.n)
    c.bias_key-bias.ensures
    ∙ ends_agree-mask a.shape c.requires.shape a.depth c.requires.deep _ c.widths_of.ensures
    (bias_key a.shape) _
    c.fixed_bits-mask.ensures a.key c.requires.fits (page_at b a.pages.now a.g) a.n

pub page_holds_spec : {M : Type 1} → statement M
page_holds_spec =
    tie.close
    (tie.spec
    widths-of-requires
    fixed-bits-requires
    bias-key-requires
    cast-capacity
    page-start-requires
    page-size-requires
    add-end
    sub-ends-agree
    part-ends-agree-start
    part-ends-agree-end
    ends-agree-requires
    returns)

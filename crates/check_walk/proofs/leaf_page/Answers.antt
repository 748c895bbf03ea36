-- A page of the lent ones is told of as its bytes say; no page, and one past them, the check finds alone.
use Rattle.std.proofs.Common.{◌-◌, ◌*◌, ap, refl, ◌∙◌}
use Rattle.shape.specs.Shape.{width_list}
use Rattle.record.specs.Lanes.{bias_key}
use Rattle.page.specs.Page.{page_size}
use Rattle.check_seen.specs.Seen.{page_seen}
use Rattle.page.proofs.PartLaws.{mid_of-page}
use Rattle.check_walk.proofs.LeafLaws.{page-told}
use Rattle.check_walk.proofs.leaf_page.Goals as goal

pub returns : goal.returns
returns c words p n =
    let a = c.args in
    let b = a.state.shape.capacity in
    page-told a.state (width_list a.widths) words a.pages.now a.region p n a.field
    c.if-field-eq0.false c.requires.shape c.if-state-page.false c.requires.bits _
    (rw (c.page_size-size.ensures, c.bias_key-bias.ensures) at c.page_seen.ensures
    ∙ ap (page_seen (width_list a.widths) b a.region.depth a.region.string (bias_key a.state.shape))
    (mid_of-page b (a.field - 1) ((a.field - 1) * page_size b) (page_size b) a.pages.now refl refl))

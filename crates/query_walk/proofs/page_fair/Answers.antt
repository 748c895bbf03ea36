-- The part lent is the page, and its count tells.
use Rattle.std.proofs.Common.{ap, ◌∙◌}
use Rattle.std.specs.Prelude.{is_some}
use Rattle.page.proofs.PartLaws.{mid_of-page}
use Rattle.query_rows.specs.Rows.{fixed_in, capacity_in, bias_in}
use Rattle.query_walk.specs.Turns.{fair_by}
use Rattle.query_walk.proofs.LeafLaws.{fair_by-counted}
use Rattle.query_walk.proofs.page_fair.Goals as goal

pub returns : goal.returns
returns c =
    let a = c.args in
    let rows = a.rows.now in
    c.is_some.ensures
    ∙ ap is_some c.fair_count.ensures
    ∙ fair_by-counted (capacity_in rows) (bias_in rows) (fixed_in rows a.x) a.corner _
    ∙ ap (fair_by (capacity_in rows) (bias_in rows) (fixed_in rows a.x) a.corner)
    (mid_of-page (capacity_in rows) a.page _ _ a.pages.now c.page_start-start.ensures c.page_size.ensures)

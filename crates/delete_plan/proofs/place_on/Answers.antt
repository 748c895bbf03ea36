-- What is lent is the page.
use Rattle.std.proofs.Common.{ap, ◌∙◌}
use Rattle.page.proofs.PartLaws.{mid_of-page}
use Rattle.page_matches.specs.KeyPlace.{key_place, place_below}
use Rattle.delete_plan.proofs.place_on.Goals as goal

pub returns : goal.returns
returns c =
    let a = c.args in
    c.find_key.ensures
    ∙ ap (λ page. place_below a.n (key_place a.fields page a.n 0))
    (mid_of-page a.capacity a.g _ _ a.pages.now c.page_start-start.ensures c.page_size.ensures)

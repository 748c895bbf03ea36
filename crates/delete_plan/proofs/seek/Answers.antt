-- Each way that it ends is a law of the place of a key.
use Rattle.std.proofs.Common.{◌≡◌, sym, ap, ◌∙◌}
use Rattle.page.specs.Page.{page_at}
use Rattle.page_matches.specs.KeyPlace.{key_place, place_below}
use Rattle.delete_plan.specs.Met.{sought, sought_among}
use Rattle.delete_plan.proofs.MetLaws.{among-absent, among-there}
use Rattle.delete_plan.proofs.seek.Goals as goal

pub returns-in_default : goal.returns-in_default
unfolding sought
returns-in_default c =
    let a = c.args in
    ap (sought_among _ (page_at a.capacity a.pages.now a.page) a.page a.depth) c.in_default.ensures

pub returns-in_default-place_on : goal.returns-in_default-place_on
unfolding sought
returns-in_default-place_on c =
    let a = c.args in
    let page = page_at a.capacity a.pages.now a.page in
    let n = c.in-Some.count in
    among-absent _ page a.page a.depth n c.in-Some.ensures.some
    (ap (λ f. place_below n (key_place f page n 0)) (sym c.to_fields-fields.ensures)
    ∙ sym c.place_on.ensures
    ∙ c.in_default-place_on.is)
    ∙ ap (sought_among _ page a.page a.depth) c.in-Some.ensures.is

pub returns : goal.returns
unfolding sought
returns c =
    let a = c.args in
    let page = page_at a.capacity a.pages.now a.page in
    let n = c.in-Some.count in
    among-there _ page a.page a.depth n c.in-Some-place_on.place c.in-Some.ensures.some
    (ap (λ f. place_below n (key_place f page n 0)) (sym c.to_fields-fields.ensures)
    ∙ sym c.place_on.ensures
    ∙ c.in-Some-place_on.is)
    ∙ ap (sought_among _ page a.page a.depth) c.in-Some.ensures.is

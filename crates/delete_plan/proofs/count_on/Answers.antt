-- What is lent is the page.
use Rattle.std.proofs.Common.{ap, ◌∙◌}
use Rattle.page.specs.Page.{count_of, page_at}
use Rattle.page.proofs.PartLaws.{mid_of-page}
use Rattle.page_ends.specs.Ends.{ends_agree}
use Rattle.page_ends.specs.Fair.{fair_count, positive}
use Rattle.delete_plan.proofs.FairLaws.{leaf_count}
use Rattle.delete_plan.proofs.count_on.Goals as goal

pub returns : goal.returns
returns c =
    let a = c.args in
    leaf_count a.capacity a.bias a.mask a.key (page_at a.capacity a.pages.now a.g) c.fair_count.result
    (c.fair_count.ensures
    ∙ ap (λ page. positive (fair_count a.capacity (ends_agree a.bias a.mask a.key page (count_of page)) page))
    (mid_of-page a.capacity a.g _ _ a.pages.now c.page_start-start.ensures c.page_size.ensures))

-- `query_records::count_at` meets its contract: the part lent is the page. Assumes nothing.
use mathlib.Core.Path.{◌≡◌, sym, ap, ◌∙◌}
use native.Mathlib.Omega.{arith}
use Rattle.page.specs.Page.{count_of, page_at}
use Rattle.page.proofs.FieldLaws.{length-fields_from}
use Rattle.page.proofs.PartLaws.{mid_of-page}
use borrow.Author.Rules.{rules}
use Rattle.query_records.proofs.count_at.Statement.{statement}
use Rattle.query_records.proofs.count_at.Tie as tie

page-start-requires : tie.Need-page_start-start-requires
page-start-requires c κs = search rules

page-size-requires : tie.Need-page_size-requires
page-size-requires c κs = search rules

add-end : tie.Need-overflow_add-end
add-end c = search rules

sub-count : tie.Need-slice_bounds-count-count
sub-count c = search rules

part-count-start : tie.Need-slice_bounds-count-start
part-count-start c = search rules

part-count-end : tie.Need-slice_bounds-count-end
part-count-end c = search rules

count-requires : tie.Need-count-requires
count-requires c κs = search rules

returns : tie.Need-returns
returns c =
    let a = c.args in
    let page = page_at a.capacity a.pages.now a.g in
    let n : c.count.result ≡ count_of page =
    c.count.ensures.0
    ∙ ap count_of (mid_of-page a.capacity a.g _ _ a.pages.now c.page_start-start.ensures
    c.page_size.ensures) in
    (n ∙ sym (length-fields_from (count_of page) 2 page), omega (arith, n, c.requires.0, c.requires.1.counted))

pub count_at_spec : {M : Type 1} → statement M
count_at_spec =
    tie.close
    (tie.spec
    page-start-requires
    page-size-requires
    add-end
    sub-count
    part-count-start
    part-count-end
    count-requires
    returns)

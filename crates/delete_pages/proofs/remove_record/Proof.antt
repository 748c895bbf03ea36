-- `delete_pages::remove_record` meets its contract: what is lent is the page. Assumes nothing.
use mathlib.Core.Path.{◌∙◌}
use native.Mathlib.Omega.{arith}
use Rattle.page.specs.Page.{page_at}
use Rattle.page.specs.Changes.{removed_page}
use Rattle.page.proofs.ChangeLaws.{length-removed_page}
use Rattle.pages.proofs.PutLaws.{put_mid-change}
use Rattle.page.proofs.PartLaws.{length-page_at}
use Rattle.delete_pages.specs.PageBytes.{removed_bytes}
use borrow.Author.Rules.{rules}
use Rattle.delete_pages.proofs.remove_record.Statement.{statement}
use Rattle.delete_pages.proofs.remove_record.Tie as tie

cast-page-start : tie.Need-overflow_cast-found
cast-page-start c = search rules

page-start-requires : tie.Need-page_start-start-requires
page-start-requires c κs = search rules

page-size-requires : tie.Need-page_size-requires
page-size-requires c κs = search rules

add-end : tie.Need-overflow_add-end
add-end c = search rules

sub-remove-at : tie.Need-slice_bounds-remove_at-count
sub-remove-at c = search rules

part-remove-at-start : tie.Need-slice_bounds-remove_at-start
part-remove-at-start c = search rules

part-remove-at-end : tie.Need-slice_bounds-remove_at-end
part-remove-at-end c = search rules

remove-at-requires : tie.Need-remove_at-requires
remove-at-requires c κs = search rules

same_length : tie.Need-shape_of-pages
same_length c = search rules

returns : tie.Need-returns
unfolding removed_bytes
returns c =
    let a = c.args in
    let r = a.found in
    let page = page_at a.capacity a.pages.now r.page in
    let whole = length-page_at a.capacity r.page a.pages.now c.requires.page.whole in
    put_mid-change a.capacity r.page _ _ a.pages.now c.page_start-start.ensures
    c.page_size.ensures (removed_page r.place r.count) _
    c.remove_at.ensures
    (length-removed_page r.place r.count page c.requires.place-lt (omega (arith, whole, c.requires.few))
    ∙ whole)

pub remove_record_spec : {M : Type 1} → statement M
remove_record_spec =
    tie.close
    (tie.spec
    cast-page-start
    page-start-requires
    page-size-requires
    add-end
    sub-remove-at
    part-remove-at-start
    part-remove-at-end
    remove-at-requires
    same_length
    returns)

-- `insert_pages::insert_record` meets its contract: what is lent is the page, and what comes back stands in its place.
-- Assumes nothing.
use borrow.Author.Rules.{rules}
use Rattle.record.specs.Packed.{packed_bytes}
use Rattle.record.proofs.CodecLaws.{length-packed_bytes}
use Rattle.page.specs.Changes.{inserted_page}
use Rattle.pages.proofs.PutLaws.{put_mid-change}
use Rattle.insert_pages.specs.Inserted.{inserted_pages}
use Rattle.insert_pages.proofs.InsertedLaws.{length_inserted}
use Rattle.insert_pages.proofs.insert_record.Statement.{statement}
use Rattle.insert_pages.proofs.insert_record.Tie as tie

page-start-requires : tie.Need-page_start-start-requires
page-start-requires c κs = search rules

page-size-requires : tie.Need-page_size-requires
page-size-requires c κs = search rules

add-end : tie.Need-overflow_add-end
add-end c = search rules

sub-insert-at : tie.Need-slice_bounds-insert_at-count
sub-insert-at c = search rules

part-insert-at-start : tie.Need-slice_bounds-insert_at-start
part-insert-at-start c = search rules

part-insert-at-end : tie.Need-slice_bounds-insert_at-end
part-insert-at-end c = search rules

insert-at-requires : tie.Need-insert_at-requires
insert-at-requires c κs = search rules

same_length : tie.Need-shape_of-pages
same_length c = search rules

returns : tie.Need-returns
unfolding inserted_pages
returns c =
    let a = c.args in
    let new = packed_bytes a.key a.content in
    put_mid-change a.capacity a.p _ _ a.pages.now c.page_start-start.ensures
    c.page_size.ensures (inserted_page a.i a.n new) _
    c.insert_at.ensures
    (length_inserted a.capacity a.p a.i a.n new a.pages.now c.requires.0 c.requires.1 c.requires.2
    (length-packed_bytes a.key a.content))

pub insert_record_spec : {M : Type 1} → statement M
insert_record_spec =
    tie.close
    (tie.spec
    page-start-requires
    page-size-requires
    add-end
    sub-insert-at
    part-insert-at-start
    part-insert-at-end
    insert-at-requires
    same_length
    returns)

-- `pages::carry` meets its contract: out of page p into a buffer, p's count, out of the buffer into page q.
-- Assumes nothing.
use Rattle.pages.proofs.CarryLaws.{put_mid-carried}
use borrow.Author.Rules.{rules}
use Rattle.pages.proofs.carry.Statement.{statement}
use Rattle.pages.proofs.carry.Tie as tie

page-size-requires : tie.Need-page_size-size-requires
page-size-requires c κs = search rules

sub-run : tie.Need-overflow_sub-run
sub-run c = search rules

page-start-requires : tie.Need-page_start-from-requires
page-start-requires c κs = search rules

add-from-end : tie.Need-overflow_add-from_end
add-from-end c = search rules

sub-copy-records : tie.Need-slice_bounds-copy_records-count
sub-copy-records c = search rules

part-copy-records-start : tie.Need-slice_bounds-copy_records-start
part-copy-records-start c = search rules

part-copy-records-end : tie.Need-slice_bounds-copy_records-end
part-copy-records-end c = search rules

mul-copy-records : tie.Need-overflow_mul-m
mul-copy-records c = search rules

add-copy-records : tie.Need-overflow_add-m
add-copy-records c = search rules

slice-aggregate-copy-records : tie.Need-slice_bounds-copy_records-end-2
slice-aggregate-copy-records c = search rules

copy-records-requires : tie.Need-copy_records-requires
copy-records-requires c κs = search rules

sub-set-count : tie.Need-slice_bounds-set_count-count
sub-set-count c = search rules

part-set-count-start : tie.Need-slice_bounds-set_count-start
part-set-count-start c = search rules

part-set-count-end : tie.Need-slice_bounds-set_count-end
part-set-count-end c = search rules

set-count-requires : tie.Need-set_count-requires
set-count-requires c κs = search rules

page-start-requires-2 : tie.Need-page_start-to-requires
page-start-requires-2 c κs = search rules

add-to-end : tie.Need-overflow_add-to_end
add-to-end c = search rules

sub-append : tie.Need-slice_bounds-append-count
sub-append c = search rules

part-append-start : tie.Need-slice_bounds-append-start
part-append-start c = search rules

part-append-end : tie.Need-slice_bounds-append-end
part-append-end c = search rules

slice-aggregate-append : tie.Need-slice_bounds-append-end-2
slice-aggregate-append c = search rules

append-requires : tie.Need-append-requires
append-requires c κs = search rules

same_length : tie.Need-shape_of-pages
same_length c = search rules

returns : tie.Need-returns
returns c =
    let a = c.args in
    put_mid-carried a.capacity a.p a.m a.n a.q a.j a.pages.now c.requires.0.0
    c.requires.0.1
    c.requires.1.0 c.requires.1.1 c.requires.1.2 _ _ _ c.page_start-from.ensures
    c.page_start-to.ensures c.page_size-size.ensures _ _ _ _ c.copy_records.ensures
    c.set_count.ensures
    c.append.ensures

pub carry_spec : {M : Type 1} → statement M
carry_spec =
    tie.close
    (tie.spec
    page-size-requires
    sub-run
    page-start-requires
    add-from-end
    sub-copy-records
    part-copy-records-start
    part-copy-records-end
    mul-copy-records
    add-copy-records
    slice-aggregate-copy-records
    copy-records-requires
    sub-set-count
    part-set-count-start
    part-set-count-end
    set-count-requires
    page-start-requires-2
    add-to-end
    sub-append
    part-append-start
    part-append-end
    slice-aggregate-append
    append-requires
    same_length
    returns)

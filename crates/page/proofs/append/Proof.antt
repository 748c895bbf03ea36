-- `page::append` meets its contract: a run of records, then the count. Assumes nothing.
use Rattle.page.specs.Changes.{counted_page, appended_page}
use borrow.Author.Rules.{rules}
use Rattle.page.proofs.append.Statement.{statement}
use Rattle.page.proofs.append.Tie as tie

mul-copy-records : tie.Need-overflow_mul-n
mul-copy-records c = search rules

add-copy-records : tie.Need-overflow_add-n
add-copy-records c = search rules

copy-records-requires : tie.Need-copy_records-requires
copy-records-requires c κs = search rules

add-write16 : tie.Need-overflow_add-n-2
add-write16 c = search rules

write16-requires : tie.Need-write16-requires
write16-requires c κs = search rules

same_length : tie.Need-shape_of-page
same_length c = search rules

returns : tie.Need-returns
unfolding counted_page appended_page
returns c =
    rw (c.write16.ensures, c.copy_records.ensures)

pub append_spec : {M : Type 1} → statement M
append_spec =
    tie.close
    (tie.spec
    mul-copy-records
    add-copy-records
    copy-records-requires
    add-write16
    write16-requires
    same_length
    returns)

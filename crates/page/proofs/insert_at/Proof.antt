-- `page::insert_at` meets its contract: a run of bytes moved up, the record, then the count. Assumes nothing.
use Rattle.page.specs.Changes.{counted_page, inserted_page}
use borrow.Author.Rules.{rules}
use Rattle.page.proofs.insert_at.Statement.{statement}
use Rattle.page.proofs.insert_at.Tie as tie

mul-from : tie.Need-overflow_mul-from
mul-from c = search rules

add-from : tie.Need-overflow_add-from
add-from c = search rules

sub-run : tie.Need-overflow_sub-run
sub-run c = search rules

mul-run : tie.Need-overflow_mul-run
mul-run c = search rules

add-move-up : tie.Need-overflow_add-from-2
add-move-up c = search rules

move-up-requires : tie.Need-move_up-requires
move-up-requires c κs = search rules

write-record-requires : tie.Need-write_record-requires
write-record-requires c κs = search rules

add-write16 : tie.Need-overflow_add-n
add-write16 c = search rules

write16-requires : tie.Need-write16-requires
write16-requires c κs = search rules

same_length : tie.Need-shape_of-page
same_length c = search rules

returns : tie.Need-returns
unfolding counted_page inserted_page
returns c =
    rw (
      c.write16.ensures,
      c.write_record.ensures,
      c.move_up.ensures,
    )

pub insert_at_spec : {M : Type 1} → statement M
insert_at_spec =
    tie.close
    (tie.spec
    mul-from
    add-from
    sub-run
    mul-run
    add-move-up
    move-up-requires
    write-record-requires
    add-write16
    write16-requires
    same_length
    returns)

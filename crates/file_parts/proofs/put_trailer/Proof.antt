-- `file_parts::put_trailer` meets its contract: the letters are copied, and three numbers written behind them. Assumes
-- nothing.
use Rattle.file_parts.proofs.EndLaws.{paste-trailer_bytes}
use borrow.Author.Rules.{rules}
use Rattle.file_parts.proofs.put_trailer.Statement.{statement}
use Rattle.file_parts.proofs.put_trailer.Tie as tie

slice-aggregate-copy : tie.Need-slice_bounds-copy-end
slice-aggregate-copy c = search rules

copy-requires : tie.Need-copy-requires
copy-requires c κs = search rules

sub-write32 : tie.Need-overflow_sub-write32
sub-write32 c = search rules

add-write32 : tie.Need-overflow_add-at
add-write32 c = search rules

write32-requires : tie.Need-write32-requires
write32-requires c κs = search rules

sub-write32-2 : tie.Need-overflow_sub-write32-2
sub-write32-2 c = search rules

add-write32-2 : tie.Need-overflow_add-at-2
add-write32-2 c = search rules

size-with-requires : tie.Need-size_with-requires
size-with-requires c κs = search rules

write32-requires-2 : tie.Need-write32-requires-2
write32-requires-2 c κs = search rules

sub-write32-3 : tie.Need-overflow_sub-write32-3
sub-write32-3 c = search rules

add-write32-3 : tie.Need-overflow_add-at-3
add-write32-3 c = search rules

write32-requires-3 : tie.Need-write32-requires-3
write32-requires-3 c κs = search rules

same_length : tie.Need-shape_of-out
same_length c = search rules

returns : tie.Need-returns
returns c =
    let a = c.args in
    paste-trailer_bytes a.out.now _ _ _ _ a.at a.count _ c.requires.1 c.size_with.ensures
    c.copy.ensures c.write32.ensures c.write32-2.ensures c.write32-3.ensures

pub put_trailer_spec : {M : Type 1} → statement M
put_trailer_spec =
    tie.close
    (tie.spec
    slice-aggregate-copy
    copy-requires
    sub-write32
    add-write32
    write32-requires
    sub-write32-2
    add-write32-2
    size-with-requires
    write32-requires-2
    sub-write32-3
    add-write32-3
    write32-requires-3
    same_length
    returns)

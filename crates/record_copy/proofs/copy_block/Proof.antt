-- `record_copy::copy_block` meets its contract: sixteen bytes three times. Assumes nothing.
use Rattle.record_copy.proofs.CopyLaws.{paste-sixteens}
use borrow.Author.Rules.{rules}
use Rattle.record_copy.proofs.copy_block.Statement.{statement}
use Rattle.record_copy.proofs.copy_block.Tie as tie

copy-sixteen-requires : tie.Need-copy_sixteen-requires
copy-sixteen-requires c κs = search rules

add-copy-sixteen : tie.Need-overflow_add-from
add-copy-sixteen c = search rules

add-copy-sixteen-2 : tie.Need-overflow_add-to
add-copy-sixteen-2 c = search rules

copy-sixteen-requires-2 : tie.Need-copy_sixteen-requires-2
copy-sixteen-requires-2 c κs = search rules

add-copy-sixteen-3 : tie.Need-overflow_add-from-2
add-copy-sixteen-3 c = search rules

add-copy-sixteen-4 : tie.Need-overflow_add-to-2
add-copy-sixteen-4 c = search rules

copy-sixteen-requires-3 : tie.Need-copy_sixteen-requires-3
copy-sixteen-requires-3 c κs = search rules

same_length : tie.Need-shape_of-target
same_length c = search rules

returns : tie.Need-returns
returns c =
    let a = c.args in
    paste-sixteens a.source.now a.target.now a.from a.to c.requires.0 c.requires.1 _ _ _
    c.copy_sixteen.ensures c.copy_sixteen-2.ensures c.copy_sixteen-3.ensures

pub copy_block_spec : {M : Type 1} → statement M
copy_block_spec =
    tie.close
    (tie.spec
    copy-sixteen-requires
    add-copy-sixteen
    add-copy-sixteen-2
    copy-sixteen-requires-2
    add-copy-sixteen-3
    add-copy-sixteen-4
    copy-sixteen-requires-3
    same_length
    returns)

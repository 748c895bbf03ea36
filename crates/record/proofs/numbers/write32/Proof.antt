-- `record::numbers::write32` meets its contract: two runs of two bytes side by side. Assumes nothing.
use Rattle.record.proofs.NumberLaws.{write-four}
use borrow.Author.Rules.{rules}
use Rattle.record.proofs.numbers.write32.Statement.{statement}
use Rattle.record.proofs.numbers.write32.Tie as tie

write16-requires : tie.Need-write16-requires
write16-requires c κs = search rules

add-write16 : tie.Need-overflow_add-at
add-write16 c = search rules

write16-requires-2 : tie.Need-write16-requires-2
write16-requires-2 c κs = search rules

same_length : tie.Need-shape_of-bytes
same_length c = search rules

returns : tie.Need-returns
returns c =
    let a = c.args in
    write-four a.bytes.now _ _ a.at a.x c.requires
    c.write16.ensures c.write16-2.ensures

pub write32_spec : {M : Type 1} → statement M
write32_spec =
    tie.close (tie.spec write16-requires add-write16 write16-requires-2 same_length returns)

-- `record::numbers::write64` meets its contract: two runs of four bytes side by side. Assumes nothing.
use Rattle.record.proofs.NumberLaws.{write-eight}
use borrow.Author.Rules.{rules}
use Rattle.record.proofs.numbers.write64.Statement.{statement}
use Rattle.record.proofs.numbers.write64.Tie as tie

write32-requires : tie.Need-write32-requires
write32-requires c κs = search rules

add-write32 : tie.Need-overflow_add-at
add-write32 c = search rules

write32-requires-2 : tie.Need-write32-requires-2
write32-requires-2 c κs = search rules

same_length : tie.Need-shape_of-bytes
same_length c = search rules

returns : tie.Need-returns
returns c =
    let a = c.args in
    write-eight a.bytes.now _ _ a.at a.x c.requires
    c.write32.ensures c.write32-2.ensures

pub write64_spec : {M : Type 1} → statement M
write64_spec =
    tie.close (tie.spec write32-requires add-write32 write32-requires-2 same_length returns)

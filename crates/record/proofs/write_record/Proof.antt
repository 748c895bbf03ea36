-- `record::write_record` meets its contract: the payload's bytes behind the key's. Assumes nothing.
use Rattle.record.proofs.CodecLaws.{paste-packed_bytes}
use borrow.Author.Rules.{rules}
use Rattle.record.proofs.write_record.Statement.{statement}
use Rattle.record.proofs.write_record.Tie as tie

write64-requires : tie.Need-write64-requires
write64-requires c κs = search rules

add-write32 : tie.Need-overflow_add-at
add-write32 c = search rules

cast-write32 : tie.Need-overflow_cast-content
cast-write32 c = search rules

write32-requires : tie.Need-write32-requires
write32-requires c κs = search rules

same_length : tie.Need-shape_of-bytes
same_length c = search rules

returns : tie.Need-returns
returns c =
    let a = c.args in
    paste-packed_bytes a.bytes.now _ _ a.at a.key a.content c.requires
    c.write64.ensures c.write32.ensures

pub write_record_spec : {M : Type 1} → statement M
write_record_spec =
    tie.close
    (tie.spec write64-requires add-write32 cast-write32 write32-requires same_length returns)

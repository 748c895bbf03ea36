-- `file_parts::put_end` meets its contract: the trailer is written behind the shape. Assumes nothing.
use Prim.Native.Nat.{◌*◌}
use Rattle.record.specs.Bytes.{record_size}
use Rattle.file_parts.proofs.EndLaws.{paste-end_bytes}
use borrow.Author.Rules.{rules}
use Rattle.file_parts.proofs.put_end.Statement.{statement}
use Rattle.file_parts.proofs.put_end.Tie as tie

mul_at : tie.Need-overflow_mul-at
mul_at c = search rules

put-shape-requires : tie.Need-put_shape-requires
put-shape-requires c κs = search rules

add-put-trailer : tie.Need-overflow_add-at
add-put-trailer c = search rules

put-trailer-requires : tie.Need-put_trailer-requires
put-trailer-requires c κs = search rules

same_length : tie.Need-shape_of-out
same_length c = search rules

returns : tie.Need-returns
returns c =
    let a = c.args in
    paste-end_bytes a.out.now _ _ (record_size * a.n) a.shape a.n c.requires.2 c.put_shape.ensures
    c.put_trailer.ensures

pub put_end_spec : {M : Type 1} → statement M
put_end_spec =
    tie.close
    (tie.spec mul_at put-shape-requires add-put-trailer put-trailer-requires same_length returns)

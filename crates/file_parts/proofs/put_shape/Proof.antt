-- `file_parts::put_shape` meets its contract: the shape's bytes are copied. Assumes nothing.
use borrow.Author.Rules.{rules}
use Rattle.file_parts.proofs.put_shape.Statement.{statement}
use Rattle.file_parts.proofs.put_shape.Tie as tie

shape-bytes-requires : tie.Need-shape_bytes-bytes-requires
shape-bytes-requires c κs = search rules

slice-aggregate-copy : tie.Need-slice_bounds-copy-end
slice-aggregate-copy c = search rules

copy-requires : tie.Need-copy-requires
copy-requires c κs = search rules

same_length : tie.Need-shape_of-out
same_length c = search rules

returns : tie.Need-returns
returns c =
    rw c.shape_bytes-bytes.ensures at c.copy.ensures

pub put_shape_spec : {M : Type 1} → statement M
put_shape_spec =
    tie.close
    (tie.spec shape-bytes-requires slice-aggregate-copy copy-requires same_length returns)

-- `directory_cell::cell_before` meets its contract: the depths before a place, and that many bits of each encoding.
-- Assumes nothing.
use native.Mathlib.Omega.{arith}
use Rattle.shape.specs.Shape.{width_list}
use Rattle.split.proofs.StepLaws.{depth_before}
use Rattle.directory_cell.proofs.KeyLaws.{cell-split_bit}
use borrow.Author.Rules.{rules}
use Rattle.directory_cell.proofs.cell_before.Statement.{statement}
use Rattle.directory_cell.proofs.cell_before.Tie as tie

depth-before-requires : tie.Need-depth_before-h0-requires
depth-before-requires c κs = search rules

depth-before-requires-2 : tie.Need-depth_before-h1-requires
depth-before-requires-2 c κs = search rules

depth-before-requires-3 : tie.Need-depth_before-h2-requires
depth-before-requires-3 c κs = search rules

depth-before-requires-4 : tie.Need-depth_before-h3-requires
depth-before-requires-4 c κs = search rules

array-read-index-of-bits : tie.Need-bounds-key-0
array-read-index-of-bits c = search rules

cast-index-of-bits : tie.Need-overflow_cast-key
cast-index-of-bits c = search rules

index-of-bits-requires : tie.Need-index_of_bits-i0-requires
index-of-bits-requires c κs =
    (omega (arith, c.depth_before-h0.ensures), c.requires.0 0)

array-read-index-of-bits-2 : tie.Need-bounds-key-1
array-read-index-of-bits-2 c = search rules

cast-index-of-bits-2 : tie.Need-overflow_cast-key-2
cast-index-of-bits-2 c = search rules

index-of-bits-requires-2 : tie.Need-index_of_bits-i1-requires
index-of-bits-requires-2 c κs =
    (omega (arith, c.depth_before-h1.ensures), c.requires.0 1)

array-read-index-of-bits-3 : tie.Need-bounds-key-2
array-read-index-of-bits-3 c = search rules

cast-index-of-bits-3 : tie.Need-overflow_cast-key-3
cast-index-of-bits-3 c = search rules

index-of-bits-requires-3 : tie.Need-index_of_bits-i2-requires
index-of-bits-requires-3 c κs =
    (omega (arith, c.depth_before-h2.ensures), c.requires.0 2)

array-read-index-of-bits-4 : tie.Need-bounds-key-3
array-read-index-of-bits-4 c = search rules

cast-index-of-bits-4 : tie.Need-overflow_cast-key-4
cast-index-of-bits-4 c = search rules

index-of-bits-requires-4 : tie.Need-index_of_bits-i3-requires
index-of-bits-requires-4 c κs =
    (omega (arith, c.depth_before-h3.ensures), c.requires.0 3)

returns : tie.Need-returns
unfolding depth_before
returns c =
    cell-split_bit (width_list c.args.widths) c.requires.0 c.args.g c.args.key _ _ _ _ _ _ _ _ c.requires.1
    c.depth_before-h0.ensures c.depth_before-h1.ensures c.depth_before-h2.ensures c.depth_before-h3.ensures
    c.index_of_bits-i0.ensures c.index_of_bits-i1.ensures
    c.index_of_bits-i2.ensures c.index_of_bits-i3.ensures

pub cell_before_spec : {M : Type 1} → statement M
cell_before_spec =
    tie.close
    (tie.spec
    depth-before-requires
    depth-before-requires-2
    depth-before-requires-3
    depth-before-requires-4
    array-read-index-of-bits
    cast-index-of-bits
    index-of-bits-requires
    array-read-index-of-bits-2
    cast-index-of-bits-2
    index-of-bits-requires-2
    array-read-index-of-bits-3
    cast-index-of-bits-3
    index-of-bits-requires-3
    array-read-index-of-bits-4
    cast-index-of-bits-4
    index-of-bits-requires-4
    returns)

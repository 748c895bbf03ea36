-- `directory_cell::cell_at` meets its contract: few bits of each value, or the four values. Assumes nothing.
use mathlib.Core.Path.{ap, ◌∙◌}
use lib.ListN.{length}
use Rattle.shape.specs.Shape.{width_list}
use Rattle.split.specs.Steps.{steps_below}
use Rattle.split.specs.Bits.{split_bit}
use Rattle.cell.specs.Cell.{cell}
use borrow.Author.Rules.{rules}
use Rattle.directory_cell.proofs.cell_at.Statement.{statement}
use Rattle.directory_cell.proofs.cell_at.Tie as tie

near-cell-requires : tie.Need-near_cell-requires
near-cell-requires c κs = search rules

returns : tie.Need-returns-then-g-le16
returns c = c.near_cell.ensures

unpack-key-requires : tie.Need-unpack_key-requires
unpack-key-requires c κs = search rules

cell-before-requires : tie.Need-cell_before-requires
cell-before-requires c κs = search rules

returns-2 : tie.Need-returns
returns-2 c =
    let a = c.args in
    let ws = width_list a.widths in
    c.cell_before.ensures
    ∙ ap (λ key. cell ws (length (steps_below ws a.g)) (split_bit ws key)) c.unpack_key.ensures

pub cell_at_spec : {M : Type 1} → statement M
cell_at_spec =
    tie.close
    (tie.spec near-cell-requires returns unpack-key-requires cell-before-requires returns-2)

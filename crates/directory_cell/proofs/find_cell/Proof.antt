-- `directory_cell::find_cell` meets its contract: the address of the key's index vector. Assumes nothing.
use mathlib.Core.Path.{sym, ap, ◌∙◌, subst}
use Rattle.shape.specs.Shape.{width_list}
use Rattle.address.specs.Address.{address}
use Rattle.address.specs.Vectors.{InBox}
use Rattle.cell.specs.Cell.{cell_address}
use Rattle.cell.proofs.HalfLaws.{in_box-cell}
use borrow.Author.Rules.{rules}
use Rattle.directory_cell.proofs.find_cell.Statement.{statement}
use Rattle.directory_cell.proofs.find_cell.Tie as tie

cell-of-requires : tie.Need-cell_of-index-requires
cell-of-requires c κs = search rules

locate-requires : tie.Need-locate-requires
locate-requires c κs =
    subst (InBox (width_list c.args.widths)) (sym c.cell_of-index.ensures) (in_box-cell _ c.requires.0 _ _)

returns : tie.Need-returns
unfolding cell_address
returns c =
    let s = c.args in
    c.locate.ensures ∙ ap (address (width_list s.widths)) c.cell_of-index.ensures

pub find_cell_spec : {M : Type 1} → statement M
find_cell_spec = tie.close (tie.spec cell-of-requires locate-requires returns)

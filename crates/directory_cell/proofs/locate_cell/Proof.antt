-- `directory_cell::locate_cell` meets its contract: the address of the index vector before a place with t steps before
-- it. Assumes nothing.
use mathlib.Core.Path.{◌≡◌, sym, ap, ◌∙◌, subst}
use Rattle.shape.specs.Shape.{width_list}
use Rattle.split.specs.Bits.{split_bit}
use Rattle.address.specs.Address.{address}
use Rattle.address.specs.Vectors.{InBox}
use Rattle.address_formula.specs.Index.{index_list}
use Rattle.cell.specs.Cell.{cell, cell_address}
use Rattle.cell.proofs.HalfLaws.{in_box-cell}
use borrow.Author.Rules.{rules}
use Rattle.directory_cell.proofs.locate_cell.Statement.{statement}
use Rattle.directory_cell.proofs.locate_cell.Tie as tie

-- t steps are before the place
indexed : (c : tie.After-cell_before-index)
    → let s = c.args in
    index_list c.cell_before-index.result ≡ cell (width_list s.widths) s.t (split_bit (width_list s.widths) s.key)
indexed c =
    let s = c.args in
    let ws = width_list s.widths in
    c.cell_before-index.ensures ∙ ap (λ n. cell ws n (split_bit ws s.key)) c.place_of.ensures.before

place-of-requires : tie.Need-place_of-requires
place-of-requires c κs = search rules

cell-before-requires : tie.Need-cell_before-index-requires
cell-before-requires c κs = search rules

locate-requires : tie.Need-locate-requires
locate-requires c κs =
    subst (InBox (width_list c.args.widths)) (sym (indexed c)) (in_box-cell _ c.requires.0 _ _)

returns : tie.Need-returns
unfolding cell_address
returns c =
    let s = c.args in
    c.locate.ensures ∙ ap (address (width_list s.widths)) (indexed c.before)

pub locate_cell_spec : {M : Type 1} → statement M
locate_cell_spec =
    tie.close (tie.spec place-of-requires cell-before-requires locate-requires returns)

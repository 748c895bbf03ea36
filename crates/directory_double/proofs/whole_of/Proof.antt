-- `directory_double::whole_of` meets its contract: without the step's bit the vector is that of the whole cell.
-- Assumes nothing.
use mathlib.Core.Path.{refl, sym, ap, ◌∙◌, subst}
use Rattle.shape.specs.Shape.{width_list}
use Rattle.address_formula.specs.Index.{index_list}
use Rattle.address.specs.Address.{address}
use Rattle.address.specs.Vectors.{InBox}
use Rattle.cell.specs.Cell.{cell_address}
use Rattle.cell.proofs.HalfLaws.{in_box-cell}
use Rattle.directory.proofs.DoublingLaws.{Whole, whole}
use borrow.Author.Rules.{rules}
use Rattle.directory_double.proofs.whole_of.Statement.{statement}
use Rattle.directory_double.proofs.whole_of.Tie as tie

found : (c : tie.After-index_before-index) → let s = c.args in
    Whole (width_list s.widths) s.t s.g s.a (index_list c.index_before-index.result)
found c = whole _ _ _ _ (index_list c.index_before-index.result) c.requires refl c.index_before-index.ensures

index-before-requires : tie.Need-index_before-index-requires
index-before-requires c κs = search rules

without-bit-requires : tie.Need-without_bit-whole-requires
without-bit-requires c κs = (c.requires.pair.low, (found c).high)

locate-requires : tie.Need-locate-requires
locate-requires c κs =
    subst (InBox (width_list c.args.widths)) (sym (c.without_bit-whole.ensures ∙ (found c.before).cleared))
    (in_box-cell _ c.requires.fit _ _)

returns : tie.Need-returns
unfolding cell_address
returns c =
    let f = found c.before.before in
    let ws = width_list c.args.widths in
    (f.string, f.at, sym (c.locate.ensures ∙ ap (address ws) (c.without_bit-whole.ensures ∙ f.cleared)))

pub whole_of_spec : {M : Type 1} → statement M
whole_of_spec =
    tie.close (tie.spec index-before-requires without-bit-requires locate-requires returns)

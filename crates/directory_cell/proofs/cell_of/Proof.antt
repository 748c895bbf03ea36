-- `directory_cell::cell_of` meets its contract: t steps are before the place, tried or sought. Assumes nothing.
use mathlib.Core.Path.{ap, ◌∙◌}
use Rattle.shape.specs.Shape.{width_list}
use Rattle.split.specs.Bits.{split_bit}
use Rattle.cell.specs.Cell.{cell}
use Rattle.record.specs.Packed.{unpacked_key}
use borrow.Author.Rules.{rules}
use Rattle.directory_cell.proofs.cell_of.Statement.{statement}
use Rattle.directory_cell.proofs.cell_of.Tie as tie

early-place-requires : tie.Need-early_place-near-requires
early-place-requires c κs = search rules

steps-before-requires : tie.Need-steps_before-requires
steps-before-requires c κs = search rules

near-cell-requires : tie.Need-near_cell-requires
near-cell-requires c κs = search rules

returns : tie.Need-returns-then-near-le16
returns c =
    let s = c.args in
    let ws = width_list s.widths in
    c.near_cell.ensures
    ∙ ap (λ n. cell ws n (split_bit ws (unpacked_key s.key)))
    (c.steps_before.ensures.before ∙ c.if-steps_before-t.true)

unpack-key-requires : tie.Need-unpack_key-requires
unpack-key-requires c κs = search rules

place-of-requires : tie.Need-place_of-requires
place-of-requires c κs = search rules

cell-before-requires : tie.Need-cell_before-requires
cell-before-requires c κs = search rules

returns-2 : tie.Need-returns
returns-2 c =
    let s = c.args in
    let ws = width_list s.widths in
    c.cell_before.ensures
    ∙ ap (λ n. cell ws n (split_bit ws c.unpack_key.result)) c.place_of.ensures.before
    ∙ ap (λ key. cell ws s.t (split_bit ws key)) c.unpack_key.ensures

pub cell_of_spec : {M : Type 1} → statement M
cell_of_spec =
    tie.close
    (tie.spec
    early-place-requires
    steps-before-requires
    near-cell-requires
    returns
    unpack-key-requires
    place-of-requires
    cell-before-requires
    returns-2)

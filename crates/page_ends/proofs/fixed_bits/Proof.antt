-- `page_ends::fixed_bits` meets its contract: x steps are before the place, tried or sought. Assumes nothing.
use mathlib.Core.Path.{ap, ◌∙◌}
use native.Mathlib.Omega.{arith}
use Rattle.shape.specs.Shape.{width_list}
use Rattle.page_ends.specs.Ends.{fixed_bits}
use Rattle.page_ends.proofs.FixedLaws.{steps-rest}
use borrow.Author.Rules.{rules}
use Rattle.page_ends.proofs.fixed_bits.Statement.{statement}
use Rattle.page_ends.proofs.fixed_bits.Tie as tie

early-place-requires : tie.Need-early_place-near-requires
early-place-requires c κs = search rules

free-before-requires : tie.Need-free_before-requires
free-before-requires c κs = search rules

fixed-bits-before-requires : tie.Need-fixed_bits_before-requires
fixed-bits-before-requires c κs = search rules

add-if1 : tie.Need-overflow_add-free_before
add-if1 c =
    let fit = c.requires.0 in
    omega (arith, fit 0, fit 1, fit 2, fit 3)

total-of-requires : tie.Need-total_of-requires
total-of-requires c κs = search rules

returns : tie.Need-returns-then-free_before-x
returns c =
    let widths = c.args.widths in
    let e = steps-rest _ _ _ _ c.free_before.ensures.0 c.if-free_before-x.true
    c.total_of.ensures.0 in
    c.fixed_bits_before.ensures ∙ ap (fixed_bits (width_list widths)) e

place-of-requires : tie.Need-place_of-requires
place-of-requires c κs = search rules

fixed-bits-before-requires-2 : tie.Need-fixed_bits_before-requires-2
fixed-bits-before-requires-2 c κs = search rules

returns-2 : tie.Need-returns
returns-2 c =
    let widths = c.args.widths in
    c.fixed_bits_before-2.ensures ∙ ap (fixed_bits (width_list widths)) c.place_of.ensures.before

pub fixed_bits_spec : {M : Type 1} → statement M
fixed_bits_spec =
    tie.close
    (tie.spec
    early-place-requires
    free-before-requires
    add-if1
    total-of-requires
    fixed-bits-before-requires
    returns
    place-of-requires
    fixed-bits-before-requires-2
    returns-2)

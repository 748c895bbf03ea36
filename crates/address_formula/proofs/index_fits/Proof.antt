-- `address_formula::index_fits` meets its contract, test by test. Assumes nothing.
use mathlib.Core.Path.{sym, ◌∙◌}
use mathlib.Core.Bool.{and-true}
use borrow.Author.Tests.{not-true, not-false}
use Rattle.address_formula.proofs.index_fits.Statement.{statement}
use Rattle.address_formula.proofs.index_fits.Tie as tie

below-requires : tie.Need-below-requires
below-requires c κs = c.requires 0

returns : tie.Need-returns-then-not-below
returns c = rw (sym c.below.ensures ∙ not-true _ c.if-not-below.true-raw)

below-requires-2 : tie.Need-below-requires-2
below-requires-2 c κs = c.requires 1

returns-2 : tie.Need-returns-then-not-below-2
returns-2 c =
    rw (
      sym c.below.ensures ∙ not-false _ c.if-not-below.false-raw,
      sym c.below-2.ensures ∙ not-true _ c.if-not-below-2.true-raw,
    )

below-requires-3 : tie.Need-below-requires-3
below-requires-3 c κs = c.requires 2

returns-3 : tie.Need-returns-then-not-below-3
returns-3 c =
    rw (
      sym c.below.ensures ∙ not-false _ c.if-not-below.false-raw,
      sym c.below-2.ensures ∙ not-false _ c.if-not-below-2.false-raw,
      sym c.below-3.ensures ∙ not-true _ c.if-not-below-3.true-raw,
    )

below-requires-4 : tie.Need-below-requires-4
below-requires-4 c κs = c.requires 3

returns-4 : tie.Need-returns
returns-4 c =
    rw (
      sym c.below.ensures ∙ not-false _ c.if-not-below.false-raw,
      sym c.below-2.ensures ∙ not-false _ c.if-not-below-2.false-raw,
      sym c.below-3.ensures ∙ not-false _ c.if-not-below-3.false-raw,
    )
    (c.below-4.ensures ∙ sym (and-true _))

pub index_fits_spec : {M : Type 1} → statement M
index_fits_spec =
    tie.close
    (tie.spec
    below-requires
    returns
    below-requires-2
    returns-2
    below-requires-3
    returns-3
    below-requires-4
    returns-4)

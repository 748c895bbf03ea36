-- `shape::widths_of` meets its contract: each of the four calls gives its element of `widths_of`. Assumes nothing.
use borrow.Author.Rules.{rules}
use Rattle.shape.specs.Shape.{widths_of}
use Rattle.shape.proofs.widths_of.Statement.{statement}
use Rattle.shape.proofs.widths_of.Tie as tie

width-of-requires : tie.Need-width_of-w0-requires
width-of-requires c κs = search rules

width-of-requires-2 : tie.Need-width_of-w1-requires
width-of-requires-2 c κs = search rules

width-of-requires-3 : tie.Need-width_of-w2-requires
width-of-requires-3 c κs = search rules

width-of-requires-4 : tie.Need-width_of-w3-requires
width-of-requires-4 c κs = search rules

returns : tie.Need-returns
unfolding widths_of
returns c =
    rw (
      c.width_of-w0.ensures,
      c.width_of-w1.ensures,
      c.width_of-w2.ensures,
      c.width_of-w3.ensures,
    )

pub widths_of_spec : {M : Type 1} → statement M
widths_of_spec =
    tie.close
    (tie.spec
    width-of-requires
    width-of-requires-2
    width-of-requires-3
    width-of-requires-4
    returns)

-- `shape::width_of` meets its contract: the test against d says which case of `width_of` applies. Assumes nothing.
use mathlib.Core.Path.{sym}
use borrow.Author.Rules.{rules}
use Rattle.shape.proofs.ShapeLaws.{width_of-used, width_of-unused}
use Rattle.shape.proofs.width_of.Statement.{statement}
use Rattle.shape.proofs.width_of.Tie as tie

cast-if1 : tie.Need-overflow_cast-shape
cast-if1 c = search rules

mul-result : tie.Need-offset_bounds-widths-j
mul-result c = search rules

array-read-result : tie.Need-bounds-widths-j
array-read-result c = search rules

cast-result : tie.Need-overflow_cast-result
cast-result c = search rules

returns : tie.Need-returns-then-j-shape
returns c = let args = c.args in sym (width_of-used args.shape args.j c.if-j-shape.true)

returns-2 : tie.Need-returns
returns-2 c = let args = c.args in sym (width_of-unused args.shape args.j c.if-j-shape.false)

pub width_of_spec : {M : Type 1} → statement M
width_of_spec =
    tie.close (tie.spec cast-if1 mul-result array-read-result cast-result returns returns-2)

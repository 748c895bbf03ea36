-- `shape::is_bad` meets its contract: past d no width is bad. Assumes nothing.
use mathlib.Core.Path.{sym}
use native.Mathlib.Omega.{arith}
use borrow.Author.Rules.{rules}
use Rattle.shape.proofs.AmissLaws.{bad_width-used, bad_width-unused}
use Rattle.shape.proofs.is_bad.Statement.{statement}
use Rattle.shape.proofs.is_bad.Tie as tie

cast-d : tie.Need-overflow_cast-d
cast-d c = search rules

returns : tie.Need-returns-then-d-j
returns c =
    let args = c.args in
    sym (bad_width-unused args.shape args.j c.if-d-j.true)

mul-in-range : tie.Need-offset_bounds-widths-j
mul-in-range c = search rules

array-read-in-range : tie.Need-bounds-widths-j
array-read-in-range c = search rules

in-range-requires : tie.Need-in_range-requires
in-range-requires c κs = search rules

returns-2 : tie.Need-returns
returns-2 c =
    let args = c.args in
    sym (bad_width-used args.shape args.j (omega arith) _ (sym c.in_range.ensures))

pub is_bad_spec : {M : Type 1} → statement M
is_bad_spec =
    tie.close
    (tie.spec cast-d returns mul-in-range array-read-in-range in-range-requires returns-2)

-- `host_results::span_at` meets its contract: by the number that says whether the attribute is given. Assumes nothing.
use mathlib.Core.Path.{refl}
use Rattle.shape.proofs.AttributeLaws.{interval_if-given}
use borrow.Author.Rules.{rules}
use Rattle.host_results.proofs.span_at.Statement.{statement}
use Rattle.host_results.proofs.span_at.Tie as tie

mul-if1 : tie.Need-offset_bounds-given-j
mul-if1 c = search rules

array-read-if1 : tie.Need-bounds-given-j
array-read-if1 c = search rules

returns : tie.Need-returns-then-given-j-eq0
returns c = rw c.if-given-j-eq0.true refl

mul-t6 : tie.Need-offset_bounds-lows-j
mul-t6 c = search rules

array-read-t9 : tie.Need-bounds-lows-j
array-read-t9 c = search rules

mul-t14 : tie.Need-offset_bounds-highs-j
mul-t14 c = search rules

array-read-t17 : tie.Need-bounds-highs-j
array-read-t17 c = search rules

returns-2 : tie.Need-returns
returns-2 c = interval_if-given _ _ _ c.if-given-j-eq0.false

pub span_at_spec : {M : Type 1} → statement M
span_at_spec =
    tie.close
    (tie.spec mul-if1 array-read-if1 returns mul-t6 array-read-t9 mul-t14 array-read-t17 returns-2)

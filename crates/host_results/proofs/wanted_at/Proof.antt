-- `host_results::wanted_at` meets its contract: by the number that says whether the attribute is given. Assumes
-- nothing.
use mathlib.Core.Path.{refl}
use Rattle.host_results.proofs.ResultLaws.{wanted_if-given}
use borrow.Author.Rules.{rules}
use Rattle.host_results.proofs.wanted_at.Statement.{statement}
use Rattle.host_results.proofs.wanted_at.Tie as tie

mul-if1 : tie.Need-offset_bounds-given-j
mul-if1 c = search rules

array-read-if1 : tie.Need-bounds-given-j
array-read-if1 c = search rules

returns : tie.Need-returns-then-given-j-eq0
returns c = rw c.if-given-j-eq0.true refl

mul-t5 : tie.Need-offset_bounds-values-j
mul-t5 c = search rules

array-read-t8 : tie.Need-bounds-values-j
array-read-t8 c = search rules

returns-2 : tie.Need-returns
returns-2 c = wanted_if-given _ _ c.if-given-j-eq0.false

pub wanted_at_spec : {M : Type 1} → statement M
wanted_at_spec = tie.close (tie.spec mul-if1 array-read-if1 returns mul-t5 array-read-t8 returns-2)

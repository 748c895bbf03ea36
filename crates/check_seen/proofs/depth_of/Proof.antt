-- `check_seen::depth_of` meets its contract: a shift by 16 leaves the whole upper half. Assumes nothing.
use mathlib.Core.Path.{refl}
use borrow.Author.Rules.{rules}
use Rattle.check_seen.proofs.depth_of.Statement.{statement}
use Rattle.check_seen.proofs.depth_of.Tie as tie

cast-result : tie.Need-overflow_cast-result
cast-result c = search rules

returns : tie.Need-returns
returns c = refl

pub depth_of_spec : {M : Type 1} → statement M
depth_of_spec = tie.close (tie.spec cast-result returns)

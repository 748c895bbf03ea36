-- `numbers::below` meets its contract: 1 << w is 2 ^ w. Assumes nothing.
use native.Mathlib.Omega.{arith}
use Rattle.lists.proofs.Shifts.{one_shifted}
use borrow.Author.Rules.{rules}
use Rattle.numbers.proofs.below.Statement.{statement}
use Rattle.numbers.proofs.below.Tie as tie

shl-result : tie.Need-overflow_shl-result
shl-result c = search rules

returns : tie.Need-returns
returns c = rw (one_shifted c.args.w (omega (arith, c.requires)))

pub below_spec : {M : Type 1} → statement M
below_spec = tie.close (tie.spec shl-result returns)

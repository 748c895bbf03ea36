-- `address_formula::pairs_after` meets its contract: 64 bits have at most 64 leading zeros, and 0 has as many.
-- Assumes nothing.
use native.Mathlib.Omega.{arith}
use lib.Count.{leading_le}
use Rattle.address_formula.proofs.LatestPairLaws.{creating_pair-leading}
use borrow.Author.Rules.{rules}
use Rattle.address_formula.proofs.pairs_after.Statement.{statement}
use Rattle.address_formula.proofs.pairs_after.Tie as tie

cast-result : tie.Need-overflow_cast-result
cast-result c = record { fits = omega (arith, leading_le 64 c.args.i) }

mul-result : tie.Need-overflow_mul-result
mul-result c = record { fits = omega (arith, leading_le 64 c.args.i) }

add-result : tie.Need-overflow_add-result
add-result c = record { fits = omega (arith, leading_le 64 c.args.i) }

sub-result : tie.Need-overflow_sub-result
sub-result c = search rules

returns : tie.Need-returns
returns c = creating_pair-leading c.args.i c.args.j c.requires c.ranges.i.fits

pub pairs_after_spec : {M : Type 1} → statement M
pairs_after_spec = tie.close (tie.spec cast-result mul-result add-result sub-result returns)

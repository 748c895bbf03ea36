-- `key_order::leading_one` meets its contract: a number other than 0 has at most 63 leading zeros. Assumes nothing.
use native.Mathlib.Omega.{arith}
use Rattle.lists.proofs.Shifts.{leading-bounds}
use Rattle.key_order.proofs.LeadingLaws.{leading_one-shifted, zeros-fit}
use Rattle.key_order.proofs.leading_one.Statement.{statement}
use Rattle.key_order.proofs.leading_one.Tie as tie

cast-result : tie.Need-overflow_cast-result
cast-result c = record { fits = zeros-fit _ }

shr-result : tie.Need-overflow_shr-result
shr-result c = omega (arith, leading-bounds c.args.n (λ e. omega arith) c.ranges.n.fits)

returns : tie.Need-returns
returns c = leading_one-shifted c.args.n c.requires c.ranges.n.fits

pub leading_one_spec : {M : Type 1} → statement M
leading_one_spec = tie.close (tie.spec cast-result shr-result returns)

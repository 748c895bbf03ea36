-- `fresh::log2` meets its contract: the logarithm and the leading zeros of a 64-bit number make 63. Assumes nothing.
use Prim.Native.Nat.{◌≤◌}
use mathlib.Core.Path.{sym}
use native.Mathlib.Omega.{arith}
use lib.Count.{count_leading_zeros}
use Rattle.lists.proofs.Shifts.{leading-bounds}
use Rattle.fresh.proofs.LimitLaws.{logarithm-leading_zeros}
use Rattle.fresh.proofs.log2.Statement.{statement}
use Rattle.fresh.proofs.log2.Tie as tie

zeros : (c : tie.Start) → count_leading_zeros 64 c.args.m ≤ 63
zeros c = (leading-bounds c.args.m (λ e. omega arith) c.ranges.m.fits).0

cast-result : tie.Need-overflow_cast-result
cast-result c = record { fits = omega (arith, zeros c) }

sub-result : tie.Need-overflow_sub-result
sub-result c = omega (arith, zeros c)

returns : tie.Need-returns
returns c = sym (logarithm-leading_zeros c.args.m c.requires c.ranges.m.fits)

pub log2_spec : {M : Type 1} → statement M
log2_spec = tie.close (tie.spec cast-result sub-result returns)

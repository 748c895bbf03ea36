-- `page_ends::fixed_before` meets its contract: 2^16 less the lowest fixed bit. Assumes nothing.
use native.Mathlib.Omega.{arith}
use Rattle.page_ends.proofs.FixedLaws.{shifted-one-le, fixed-value}
use borrow.Author.Rules.{rules}
use Rattle.page_ends.proofs.fixed_before.Statement.{statement}
use Rattle.page_ends.proofs.fixed_before.Tie as tie

free-bits-requires : tie.Need-free_bits-requires
free-bits-requires c κs = search rules

shl-result : tie.Need-overflow_shl-result
shl-result c = search rules

sub-result : tie.Need-overflow_sub-result
sub-result c = shifted-one-le _ (omega arith)

returns : tie.Need-returns
returns c =
    fixed-value c.args.w _ c.free_bits.result c.free_bits.ensures.1 c.free_bits.ensures.0

pub fixed_before_spec : {M : Type 1} → statement M
fixed_before_spec = tie.close (tie.spec free-bits-requires shl-result sub-result returns)

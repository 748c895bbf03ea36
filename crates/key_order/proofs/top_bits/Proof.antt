-- `key_order::top_bits` meets its contract: what is shifted past the top is lost. Assumes nothing.
use Rattle.key_order.proofs.LeadingLaws.{top_bits-shifted}
use borrow.Author.Rules.{rules}
use Rattle.key_order.proofs.top_bits.Statement.{statement}
use Rattle.key_order.proofs.top_bits.Tie as tie

mul-result : tie.Need-overflow_mul-result
mul-result c = search rules

shr-result : tie.Need-overflow_shr-result
shr-result c = search rules

sub-result : tie.Need-overflow_sub-result
sub-result c = search rules

shl-result : tie.Need-overflow_shl-result-2
shl-result c = search rules

returns : tie.Need-returns
returns c = top_bits-shifted c.args.key c.args.w c.args.j c.requires.0

pub top_bits_spec : {M : Type 1} → statement M
top_bits_spec = tie.close (tie.spec mul-result shr-result sub-result shl-result returns)

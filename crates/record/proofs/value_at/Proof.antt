-- `record::value_at` meets its contract: a mask of 16 ones is `% 2 ^ 16`. Assumes nothing.
use Prim.Native.Nat.{◌*◌, ◌/◌, ◌^◌}
use lib.Bits.{and_mask}
use borrow.Author.Rules.{rules}
use Rattle.record.proofs.value_at.Statement.{statement}
use Rattle.record.proofs.value_at.Tie as tie

mul-result : tie.Need-overflow_mul-result
mul-result c = search rules

shr-result : tie.Need-overflow_shr-result
shr-result c = search rules

returns : tie.Need-returns
returns c = and_mask (c.args.key / 2 ^ (16 * c.args.j)) 16

pub value_at_spec : {M : Type 1} → statement M
value_at_spec = tie.close (tie.spec mul-result shr-result returns)

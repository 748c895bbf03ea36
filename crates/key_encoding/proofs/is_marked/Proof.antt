-- `key_encoding::is_marked` meets its contract: a bit by shift and mask, none from d on. Assumes nothing.
use Rattle.std.proofs.Common.{sym, rules}
use Rattle.shape.proofs.EncodingLaws.{marked-unused}
use Rattle.key_encoding.proofs.CodeLaws.{marked-used}
use Rattle.key_encoding.proofs.is_marked.Statement.{statement}
use Rattle.key_encoding.proofs.is_marked.Tie as tie

cast-if1 : tie.Need-overflow_cast-shape
cast-if1 c = search rules

cast-result : tie.Need-overflow_cast-result
cast-result c = search rules

shr-result : tie.Need-overflow_shr-result
shr-result c = search rules

returns : tie.Need-returns-then-j-shape
returns c =
    let args = c.args in
    marked-used args.shape args.j c.if-j-shape.true

returns-2 : tie.Need-returns
returns-2 c = let args = c.args in sym (marked-unused args.shape args.j c.if-j-shape.false)

pub is_marked_spec : {M : Type 1} → statement M
is_marked_spec = tie.close (tie.spec cast-if1 cast-result shr-result returns returns-2)

-- `file_parts::size_with` meets its contract: of a count below 2^32 no sum wraps in 64 bits. Assumes nothing.
use native.Mathlib.Omega.{arith}
use borrow.Author.Rules.{rules}
use Rattle.file_parts.proofs.size_with.Statement.{statement}
use Rattle.file_parts.proofs.size_with.Tie as tie

mul-result : tie.Need-overflow_mul-result
mul-result c = search rules

add-result : tie.Need-overflow_add-result
add-result c = search rules

returns : tie.Need-returns
returns c = omega arith

pub size_with_spec : {M : Type 1} → statement M
size_with_spec = tie.close (tie.spec mul-result add-result returns)

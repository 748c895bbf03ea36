-- `file_parts::byte_before` meets its contract: a byte fits 32 bits. Assumes nothing.
use Prim.Native.Nat.{◌-◌}
use native.Mathlib.Omega.{arith}
use lib.ListN.{length}
use borrow.Author.Rules.{rules}
use Rattle.file_parts.proofs.byte_before.Statement.{statement}
use Rattle.file_parts.proofs.byte_before.Tie as tie

sub-result : tie.Need-overflow_sub-result
sub-result c = search rules

shared-slice-read-result : tie.Need-bounds-file-file
shared-slice-read-result c = search rules

cast-result : tie.Need-overflow_cast-result
cast-result c =
    let a = c.args in
    record { fits = omega (arith, c.shared_slice_known-1.given (length a.file.now - a.n)) }

returns : tie.Need-returns
returns c = search rules

pub byte_before_spec : {M : Type 1} → statement M
byte_before_spec = tie.close (tie.spec sub-result shared-slice-read-result cast-result returns)

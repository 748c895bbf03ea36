-- `address_inverse::digit_of` meets its contract by the laws of one digit. Assumes nothing.
use Prim.Native.Nat.{◌^◌}
use native.Mathlib.Omega.{arith}
use lib.Pow.{pow_pos}
use Rattle.lists.proofs.Shifts.{one_shifted}
use Rattle.address_inverse.proofs.InverseLaws.{digit_of-same, digit_of-other}
use borrow.Author.Rules.{rules}
use Rattle.address_inverse.proofs.digit_of.Statement.{statement}
use Rattle.address_inverse.proofs.digit_of.Tie as tie

returns : tie.Need-returns-then-j-z
returns c =
    let s = c.args in
    digit_of-same s.x s.a (2 ^ s.h) s.j s.z c.if-j-z.true

shl-result : tie.Need-overflow_shl-result
shl-result c = search rules

sub-result : tie.Need-overflow_sub-result
sub-result c = rw (one_shifted c.args.h (omega (arith, c.requires))) (pow_pos c.args.h)

returns-2 : tie.Need-returns
returns-2 c =
    let s = c.args in
    digit_of-other s.x s.a s.h s.j s.z c.if-j-z.false c.requires

pub digit_of_spec : {M : Type 1} → statement M
digit_of_spec = tie.close (tie.spec returns shl-result sub-result returns-2)

-- `address_inverse::drop_digit` meets its contract by the laws of one digit. Assumes nothing.
use Prim.Native.Nat.{◌^◌}
use Rattle.address_inverse.proofs.InverseLaws.{drop_digit-same, drop_digit-other}
use borrow.Author.Rules.{rules}
use Rattle.address_inverse.proofs.drop_digit.Statement.{statement}
use Rattle.address_inverse.proofs.drop_digit.Tie as tie

returns : tie.Need-returns-then-j-z
returns c =
    let s = c.args in
    drop_digit-same s.a (2 ^ s.h) s.j s.z c.if-j-z.true

shr-result : tie.Need-overflow_shr-result
shr-result c = search rules

returns-2 : tie.Need-returns
returns-2 c =
    let s = c.args in
    drop_digit-other s.a (2 ^ s.h) s.j s.z c.if-j-z.false

pub drop_digit_spec : {M : Type 1} → statement M
drop_digit_spec = tie.close (tie.spec returns shr-result returns-2)

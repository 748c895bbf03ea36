-- `address_formula::append_digit` meets its contract by the laws of one digit. Assumes nothing.
use Prim.Native.Nat.{◌+◌, ◌*◌, ◌%◌, ◌^◌}
use mathlib.Core.Path.{◌≡◌}
use native.Mathlib.Omega.{arith}
use Rattle.address_formula.specs.Digits.{append_digit}
use Rattle.address_formula.proofs.DigitLaws.{append_digit-same, append_digit-other}
use borrow.Author.Rules.{rules}
use Rattle.address_formula.proofs.append_digit.Statement.{statement}
use Rattle.address_formula.proofs.append_digit.Tie as tie

other : (c : tie.Else-j-z) → let s = c.args in
    (s.a * 2 ^ s.h) % 2 ^ 64 + s.i ≡ append_digit s.a (2 ^ s.h) s.i s.j s.z
other c =
    let s = c.args in
    append_digit-other s.a (2 ^ s.h) s.i s.j s.z c.if-j-z.false c.requires.1

returns : tie.Need-returns-then-j-z
returns c =
    let s = c.args in
    append_digit-same s.a (2 ^ s.h) s.i s.j s.z c.if-j-z.true

shl-result : tie.Need-overflow_shl-result
shl-result c = search rules

add-result : tie.Need-overflow_add-result
add-result c = record { fits = omega (arith, other c, c.requires.1) }

returns-2 : tie.Need-returns
returns-2 c = other c

pub append_digit_spec : {M : Type 1} → statement M
append_digit_spec = tie.close (tie.spec returns shl-result add-result returns-2)

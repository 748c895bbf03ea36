-- `address_calls::address_fits` meets its contract: every 64-bit number is below 2 ^ 64. Assumes nothing.
use mathlib.Core.Path.{◌≡◌, sym}
use native.Mathlib.Omega.{arith}
use borrow.Author.Tests.{lt-ltb}
use Rattle.lists.proofs.Shifts.{one_shifted}
use Rattle.address_calls.proofs.address_fits.Statement.{statement}
use Rattle.address_calls.proofs.address_fits.Tie as tie

returns : tie.Need-returns-then-t-ge64
returns c =
    let e : c.args.t ≡ 64 = omega (arith, c.requires, c.if-t-ge64.true) in
    rw e (sym (lt-ltb _ _ c.ranges.a.fits))

shl-result : tie.Need-overflow_shl-result
shl-result c = omega (arith, c.if-t-ge64.false)

returns-2 : tie.Need-returns
returns-2 c = rw (one_shifted c.args.t c.if-t-ge64.false)

pub address_fits_spec : {M : Type 1} → statement M
address_fits_spec = tie.close (tie.spec returns shl-result returns-2)

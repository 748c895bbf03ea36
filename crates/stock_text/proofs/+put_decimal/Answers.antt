-- `stock_text::put_decimal` meets its contract: the last digit stands behind the tenth's digits. Assumes nothing.
use Rattle.std.proofs.Common.{arith, ◌/◌, ◌<◌}
use Rattle.stock_text.proofs.DecimalLaws.{decimal-one, decimal-more, length-decimal-le}
use Rattle.stock_text.proofs.GrownLaws.{Grown-then}
use Rattle.stock_text.proofs.+put_decimal.Goals as goal

pub returns-then-n-lt10 : goal.returns-then-n-lt10
returns-then-n-lt10 t c = rw (decimal-one c.args.n (omega (arith, c.if-n-lt10.true))) c.put_byte.ensures

pub put_byte-requires-2 : goal.put_byte-requires-2
put_byte-requires-2 t c =
    let tenth = c.put_decimal-end.ensures in
    let fits : c.args.n / 10 < 10000000000000000000 = omega (arith, c.ranges.n.fits) in
    omega (arith, c.requires, tenth.end_is, tenth.length-is, length-decimal-le 18 (c.args.n / 10) fits)

pub returns : goal.returns
returns t c =
    rw (decimal-more c.args.n (omega (arith, c.if-n-lt10.false)) c.ranges.n.fits)
    (Grown-then _ _ _ _ _ _ _ _ c.put_decimal-end.ensures c.put_byte-2.ensures)

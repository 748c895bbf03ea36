-- `stock_text::put_records` meets its contract: by the laws of texts with one more record. Assumes nothing.
use Rattle.std.proofs.Common.{arith}
use Rattle.stock_text.proofs.TextLaws.{Grown-record, Grown-no-records}
use Rattle.stock_text.proofs.put_records.Goals as goal

pub loop-i-init : goal.loop-i-init
loop-i-init c =
    let a = c.args in
    (omega arith, Grown-no-records a.text.now a.at a.d a.out.now)

pub loop-i-preserved : goal.loop-i-preserved
loop-i-preserved c =
    let loop = c.loop-i in
    let call = c.put_record-end.ensures in (
      omega (arith, loop.invariant.0, call.upper_bound),
      Grown-record _ _ _ c.args.out.now _ _ _ c.args.d loop.i loop.invariant.1 call.grown,
    )

-- `stock_text::put_values` meets its contract: by the laws of texts with one more value. Assumes nothing.
use Rattle.std.proofs.Common.{arith}
use Rattle.record.specs.Bytes.{record_size, field}
use Rattle.stock_text.specs.Text.{space}
use Rattle.stock_text.proofs.TextLaws.{Grown-value, Grown-no-values, length-field_text-le}
use Rattle.stock_text.proofs.put_values.Goals as goal

pub loop-j-init : goal.loop-j-init
loop-j-init c =
    let a = c.args in
    (omega arith, Grown-no-values a.text.now a.at (field a.out.now a.start record_size))

pub loop-j-preserved : goal.loop-j-preserved
loop-j-preserved c =
    let loop = c.loop-j in
    let read = c.read16 in
    let call = c.put_field-end.ensures in
    let most = length-field_text-le 4 read.result space (omega (arith, read.ensures.1)) in (
      omega (arith, loop.invariant.0, call.grown.end_is, most),
      Grown-value _ _ _ c.args.out.now _ _ _ c.args.start loop.j read.result
          (omega (arith, c.loop-j-test.true, c.requires.0))
          read.ensures.0 loop.invariant.1 call.grown,
    )

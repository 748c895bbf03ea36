-- `stock_text::put_record` meets its contract: the payload stands behind the values. Assumes nothing.
use Prim.Native.Nat.{◌*◌}
use mathlib.Core.Path.{ap}
use native.Mathlib.Omega.{arith}
use borrow.Author.Rules.{rules}
use Rattle.record.specs.Bytes.{record_size}
use Rattle.stock_text.specs.Text.{newline}
use Rattle.stock_text.proofs.TextLaws.{Grown-payload, length-field_text-le}
use Rattle.stock_text.proofs.put_record.Statement.{statement}
use Rattle.stock_text.proofs.put_record.Tie as tie

mul-start : tie.Need-overflow_mul-start
mul-start c = search rules

put-values-requires : tie.Need-put_values-end-requires
put-values-requires c κs = search rules

read-content-requires : tie.Need-read_content-content-requires
read-content-requires c κs = search rules

cast-put-field : tie.Need-overflow_cast-content
cast-put-field c = search rules

put-field-requires : tie.Need-put_field-requires
put-field-requires c κs = search rules

same_length : tie.Need-shape_of-text
same_length c = search rules

returns : tie.Need-returns
returns c =
    let call = c.before.before in
    let read = call.before.before.before.read_content-content in
    let values = call.before.before.before.before.before.before.put_values-end.ensures in
    let s = call.before.before.before.before.before.before.before.before.before.before in
    let payload = ap (λ r. r.payload) read.ensures in
    let most = length-field_text-le 9 read.result.payload newline (omega arith) in (
      Grown-payload _ _ _ s.args.out.now _ _ _ (record_size * s.args.i) s.args.d read.result.payload
          payload
          values.0 call.put_field.ensures.0,
      omega (arith, s.requires.0, values.1, call.put_field.ensures.0.end_is, most),
    )

pub put_record_spec : {M : Type 1} → statement M
put_record_spec =
    tie.close
    (tie.spec
    mul-start
    put-values-requires
    read-content-requires
    cast-put-field
    put-field-requires
    same_length
    returns)

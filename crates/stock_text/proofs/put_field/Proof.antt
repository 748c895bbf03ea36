-- `stock_text::put_field` meets its contract: the byte stands behind the number's digits. Assumes nothing.
use Prim.Native.Nat.{◌≤◌}
use native.Mathlib.Omega.{arith}
use lib.ListN.{length}
use borrow.Author.Rules.{rules}
use Rattle.stock_text.specs.Text.{decimal, field_text}
use Rattle.stock_text.proofs.DecimalLaws.{length-decimal-le}
use Rattle.stock_text.proofs.GrownLaws.{Grown-then}
use Rattle.stock_text.proofs.put_field.Statement.{statement}
use Rattle.stock_text.proofs.put_field.Tie as tie

most : (s : tie.Start) → length (decimal s.args.n) ≤ 20
most s = length-decimal-le 19 s.args.n (omega (arith, s.ranges.n.fits))

put-decimal-requires : tie.Need-put_decimal-end-requires
put-decimal-requires c κs = search rules

put-byte-requires : tie.Need-put_byte-requires
put-byte-requires c κs =
    let s = c.before.before.before.before.before.before in
    let number = c.before.before.before.put_decimal-end.ensures in
    omega (arith, s.requires, number.end_is, number.length-is, most s)

same_length : tie.Need-shape_of-text
same_length c = search rules

returns : tie.Need-returns
unfolding field_text
returns c =
    let call = c.before.before in
    let number = call.before.before.before.before in
    let s = number.before.before.before in (
      Grown-then _ _ _ _ _ _ _ _ number.put_decimal-end.ensures call.put_byte.ensures,
      omega (arith, number.put_decimal-end.ensures.end_is, call.put_byte.ensures.end_is, most s),
    )

pub put_field_spec : {M : Type 1} → statement M
put_field_spec = tie.close (tie.spec put-decimal-requires put-byte-requires same_length returns)

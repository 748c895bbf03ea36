-- `record::unpack_key` meets its contract: a value in a packed key is below 2^16. Assumes nothing.
use native.Mathlib.Omega.{arith}
use Rattle.record.specs.Packed.{unpacked_key}
use borrow.Author.Rules.{rules}
use Rattle.record.proofs.unpack_key.Statement.{statement}
use Rattle.record.proofs.unpack_key.Tie as tie

value-at-requires : tie.Need-value_at-v0-requires
value-at-requires c κs = search rules

cast-v0 : tie.Need-overflow_cast-v0
cast-v0 c = omega (arith, c.value_at-v0.ensures)

value-at-requires-2 : tie.Need-value_at-v1-requires
value-at-requires-2 c κs = search rules

cast-v1 : tie.Need-overflow_cast-v1
cast-v1 c = omega (arith, c.value_at-v1.ensures)

value-at-requires-3 : tie.Need-value_at-v2-requires
value-at-requires-3 c κs = search rules

cast-v2 : tie.Need-overflow_cast-v2
cast-v2 c = omega (arith, c.value_at-v2.ensures)

value-at-requires-4 : tie.Need-value_at-v3-requires
value-at-requires-4 c κs = search rules

cast-v3 : tie.Need-overflow_cast-v3
cast-v3 c = omega (arith, c.value_at-v3.ensures)

returns : tie.Need-returns
unfolding unpacked_key
returns c =
    rw (
      c.value_at-v0.ensures,
      c.value_at-v1.ensures,
      c.value_at-v2.ensures,
      c.value_at-v3.ensures,
    )

pub unpack_key_spec : {M : Type 1} → statement M
unpack_key_spec =
    tie.close
    (tie.spec
    value-at-requires
    cast-v0
    value-at-requires-2
    cast-v1
    value-at-requires-3
    cast-v2
    value-at-requires-4
    cast-v3
    returns)

-- `key_order::first_bit` meets its contract: 64 bits have at most 64 leading zeros. Assumes nothing.
use Prim.Native.Nat.{◌+◌, ◌*◌}
use mathlib.Core.Path.{sym, subst}
use lib.Count.{count_leading_zeros}
use Rattle.record.specs.Packed.{packed_value}
use Rattle.key_order.specs.Private.{FirstBit}
use Rattle.key_order.proofs.LeadingLaws.{first_bit-zeros, zeros-fit, zeros-fit-four, zeros-fit-place}
use borrow.Author.Rules.{rules}
use Rattle.key_order.proofs.first_bit.Statement.{statement}
use Rattle.key_order.proofs.first_bit.Tie as tie

top-bits-requires : tie.Need-top_bits-top-requires
top-bits-requires c κs = search rules

cast-result : tie.Need-overflow_cast-result
cast-result c = record { fits = zeros-fit _ }

mul-result : tie.Need-overflow_mul-result
mul-result c = record { fits = zeros-fit-four _ }

add-result : tie.Need-overflow_add-result
add-result c = record { fits = zeros-fit-place _ _ c.requires.1 }

returns : tie.Need-returns
returns c =
    let a = c.args in
    let v = packed_value a.z a.j in
    subst (λ top. FirstBit a.w v a.j (4 * count_leading_zeros 64 top + a.j)) (sym c.top_bits-top.ensures)
    (first_bit-zeros a.w v a.j c.requires.0 c.requires.1)

pub first_bit_spec : {M : Type 1} → statement M
first_bit_spec =
    tie.close (tie.spec top-bits-requires cast-result mul-result add-result returns)

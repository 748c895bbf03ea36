-- `query_rows::address_by` meets its contract: masks are remainders, and no product passes 64 bits. Assumes nothing.
use Prim.Native.Nat.{◌+◌, ◌*◌, ◌/◌, ◌%◌, ◌^◌}
use mathlib.Core.Path.{◌≡◌, ap, ◌∙◌}
use native.Mathlib.Omega.{arith}
use lib.Bits.{bit_and, and_mask}
use lib.ListN.{get_or}
use Rattle.query_rows.specs.Vectors.{half_address, row_address}
use Rattle.query_rows.proofs.LaneLaws.{half-product-lt}
use borrow.Author.Rules.{rules}
use Rattle.query_rows.proofs.address_by.Statement.{statement}
use Rattle.query_rows.proofs.address_by.Tie as tie

mul_low : tie.Need-offset_bounds-rows-at
mul_low c = search rules

element-copy-out-low : tie.Need-bounds-rows-at
element-copy-out-low c = search rules

mul-low-2 : tie.Need-overflow_mul-low
mul-low-2 c =
    let a = c.args in
    let half = and_mask a.index 32 in
    record { fits = half-product-lt _ _ (omega arith) c.requires.low }

add-high : tie.Need-overflow_add-high
add-high c = search rules

mul-high : tie.Need-offset_bounds-rows-at-2
mul-high c = search rules

element-copy-out-high : tie.Need-bounds-rows-at-2
element-copy-out-high c = search rules

mul-high-2 : tie.Need-overflow_mul-high
mul-high-2 c = record { fits = half-product-lt _ _ (omega arith) c.requires.high }

-- the two halves
halves : (c : tie.After-high-1)
    → let a = c.args in
    let rows = a.rows.now in
    (bit_and (bit_and a.index 4294967295 * get_or rows a.at 0 / 65536) 65535
    ≡ half_address (a.index % 2 ^ 32) (get_or rows a.at 0))
    × (bit_and (a.index / 4294967296 * get_or rows (a.at + 1) 0 / 65536) 65535
    ≡ half_address (a.index / 2 ^ 32) (get_or rows (a.at + 1) 0))
halves c =
    let a = c.args in
    let rows = a.rows.now in (
      and_mask (bit_and a.index 4294967295 * get_or rows a.at 0 / 65536) 16
          ∙ ap (λ v. half_address v (get_or rows a.at 0)) (and_mask a.index 32),
      and_mask (a.index / 4294967296 * get_or rows (a.at + 1) 0 / 65536) 16,
    )

add-result : tie.Need-overflow_add-result
add-result c = record { fits = omega (arith, halves c) }

returns : tie.Need-returns
unfolding row_address
returns c = λ i. (halves c).0 i + (halves c).1 i

pub address_by_spec : {M : Type 1} → statement M
address_by_spec =
    tie.close
    (tie.spec
    mul_low
    element-copy-out-low
    mul-low-2
    add-high
    mul-high
    element-copy-out-high
    mul-high-2
    add-result
    returns)

-- `address_bits::with_bit` meets its contract, attribute by attribute. Assumes nothing.
use Prim.Native.Nat.{ℕ, ◌+◌, ◌*◌, ◌/◌, ◌%◌, ◌^◌, ◌<◌}
use mathlib.Core.Path.{◌≡◌}
use native.Mathlib.Omega.{arith}
use lib.ListN.{get_or}
use lib.Pow.{pow-lt}
use Rattle.lists.proofs.Shifts.{one_shifted}
use Rattle.address_formula.specs.Index.{index_list}
use Rattle.address_bits.specs.Private.{only_at}
use Rattle.address_bits.proofs.BitLaws.{add-only_at-lt, bit_set-each}
use borrow.Author.Rules.{rules}
use Rattle.address_bits.proofs.with_bit.Statement.{statement}
use Rattle.address_bits.proofs.with_bit.Tie as tie

-- 1 << k
abbrev bit : tie.Start → ℕ
bit s = (1 * 2 ^ (s.args.g / 4)) % 2 ^ 64

bit_is : (s : tie.Start) → bit s ≡ 2 ^ (s.args.g / 4)
bit_is s = one_shifted (s.args.g / 4) (omega (arith, s.requires.0))

-- no index passes 64 bits
less : (s : tie.Start) (j d : ℕ) → d ≡ only_at (bit s) j (s.args.g % 4)
    → get_or (index_list s.args.index) j 0 < 2 ^ 64 → get_or (index_list s.args.index) j 0 + d < 2 ^ 64
less s j d e l =
    let k : s.args.g / 4 < 16 = omega (arith, s.requires.0) in
    let low : get_or (index_list s.args.index) (s.args.g % 4) 0 + bit s < 2 ^ 64 =
    omega (arith, s.requires.1, bit_is s, pow-lt k) in
    let bound = add-only_at-lt (index_list s.args.index) (bit s) (s.args.g % 4) (2 ^ 64) low j l in
    omega (arith, bound)

shl-bit : tie.Need-overflow_shl-bit
shl-bit c = search rules

only-at-requires : tie.Need-only_at-d0-requires
only-at-requires c κs = search rules

only-at-requires-2 : tie.Need-only_at-d1-requires
only-at-requires-2 c κs = search rules

only-at-requires-3 : tie.Need-only_at-d2-requires
only-at-requires-3 c κs = search rules

only-at-requires-4 : tie.Need-only_at-d3-requires
only-at-requires-4 c κs = search rules

add-t9 : tie.Need-overflow_add-result
add-t9 c =
    record { fits = less c.before.before.before.before.before 0 _ c.only_at-d0.ensures c.struct_known-1.given.0.fits }

add-t10 : tie.Need-overflow_add-result-2
add-t10 c =
    record { fits = less c.before.before.before.before.before.before 1 _ c.only_at-d1.ensures c.struct_known-2-1.given.1.0.fits }

add-t11 : tie.Need-overflow_add-result-3
add-t11 c =
    let i = c.struct_known-3-1.given.1.1.0.fits in
    record { fits = less c.before.before.before.before.before.before.before 2 _ c.only_at-d2.ensures i }

add-t12 : tie.Need-overflow_add-result-4
add-t12 c =
    let i = c.struct_known-4-1.given.1.1.1.0.fits in
    record { fits = less c.before.before.before.before.before.before.before.before 3 _ c.only_at-d3.ensures i }

returns : tie.Need-returns
returns c =
    bit_set-each _ c.args.g _ _ _ _ _ _ _ _ (bit_is c.before.before.before.before.before.before.before.before) c.only_at-d0.ensures c.only_at-d1.ensures
    c.only_at-d2.ensures c.only_at-d3.ensures

pub with_bit_spec : {M : Type 1} → statement M
with_bit_spec =
    tie.close
    (tie.spec
    shl-bit
    only-at-requires
    only-at-requires-2
    only-at-requires-3
    only-at-requires-4
    add-t9
    add-t10
    add-t11
    add-t12
    returns)

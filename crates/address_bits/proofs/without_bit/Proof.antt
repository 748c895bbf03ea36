-- `address_bits::without_bit` meets its contract, attribute by attribute. Assumes nothing.
use Prim.Native.Nat.{ℕ, ◌*◌, ◌/◌, ◌%◌, ◌^◌, ◌≤◌}
use mathlib.Core.Path.{◌≡◌}
use native.Mathlib.Omega.{arith}
use lib.ListN.{get_or}
use Rattle.lists.proofs.Shifts.{one_shifted}
use Rattle.address_formula.specs.Index.{index_list}
use Rattle.address_bits.specs.Private.{only_at}
use Rattle.address_bits.proofs.BitLaws.{only_at-le, bit_cleared-each}
use borrow.Author.Rules.{rules}
use Rattle.address_bits.proofs.without_bit.Statement.{statement}
use Rattle.address_bits.proofs.without_bit.Tie as tie

-- 1 << k
abbrev bit : tie.Start → ℕ
bit s = (1 * 2 ^ (s.args.g / 4)) % 2 ^ 64

bit_is : (s : tie.Start) → bit s ≡ 2 ^ (s.args.g / 4)
bit_is s = one_shifted (s.args.g / 4) (omega (arith, s.requires.0))

-- no index falls below 0
less : (s : tie.Start) (j d : ℕ) → d ≡ only_at (bit s) j (s.args.g % 4)
    → d ≤ get_or (index_list s.args.index) j 0
less s j d e =
    let low : bit s ≤ get_or (index_list s.args.index) (s.args.g % 4) 0 = omega (arith, s.requires.1, bit_is s) in
    let bound = only_at-le (index_list s.args.index) (bit s) (s.args.g % 4) low j in
    omega (arith, bound)

shl-bit : tie.Need-overflow_shl-bit
shl-bit c = search rules

only-at-requires : tie.Need-only_at-d0-requires
only-at-requires c κs = search rules

only-at-requires-2 : tie.Need-only_at-d1-requires
only-at-requires-2 c κs = search rules

only-at-requires-3 : tie.Need-only_at-d2-requires
only-at-requires-3 c κs = search rules

only-at-requires-4 : tie.Need-only_at-d3-requires
only-at-requires-4 c κs = search rules

sub-t9 : tie.Need-overflow_sub-result
sub-t9 c =
    less c.before.before.before.before.before 0 _ c.only_at-d0.ensures

sub-t10 : tie.Need-overflow_sub-result-2
sub-t10 c =
    less c.before.before.before.before.before.before 1 _ c.only_at-d1.ensures

sub-t11 : tie.Need-overflow_sub-result-3
sub-t11 c =
    less c.before.before.before.before.before.before.before 2 _ c.only_at-d2.ensures

sub-t12 : tie.Need-overflow_sub-result-4
sub-t12 c =
    less c.before.before.before.before.before.before.before.before 3 _ c.only_at-d3.ensures

returns : tie.Need-returns
returns c =
    bit_cleared-each _ c.args.g _ _ _ _ _ _ _ _ (bit_is c.before.before.before.before.before.before.before.before) c.only_at-d0.ensures c.only_at-d1.ensures
    c.only_at-d2.ensures c.only_at-d3.ensures

pub without_bit_spec : {M : Type 1} → statement M
without_bit_spec =
    tie.close
    (tie.spec
    shl-bit
    only-at-requires
    only-at-requires-2
    only-at-requires-3
    only-at-requires-4
    sub-t9
    sub-t10
    sub-t11
    sub-t12
    returns)

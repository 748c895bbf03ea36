-- `key_order::pair_bit` meets its contract: bit k of attribute j stands w_j - 1 - k bits above the value's lowest.
-- Assumes nothing.
use Prim.Native.Nat.{◌+◌, ◌*◌, ◌-◌, ◌/◌, ◌%◌, ◌^◌}
use mathlib.Core.Path.{ap, ◌∙◌}
use native.Mathlib.Omega.{arith}
use lib.Bits.{bit_and}
use lib.Dec.{eqb}
use lib.ListN.{get_or}
use Rattle.shape.specs.Shape.{width_list}
use Rattle.key_order.proofs.PairLaws.{shifted-bit}
use borrow.Author.Rules.{rules}
use Rattle.key_order.proofs.pair_bit.Statement.{statement}
use Rattle.key_order.proofs.pair_bit.Tie as tie

mul_low : tie.Need-overflow_mul-low
mul_low c = search rules

width-at-requires : tie.Need-width_at-requires
width-at-requires c κs = search rules

add_low : tie.Need-overflow_add-low
add_low c = omega (arith, c.requires.0 (c.args.g % 4))

sub_low : tie.Need-overflow_sub-low
sub_low c = search rules

sub-low-2 : tie.Need-overflow_sub-low-2
sub-low-2 c = search rules

shr-result : tie.Need-overflow_shr-result
shr-result c = omega (arith, c.requires.0 (c.args.g % 4))

returns : tie.Need-returns
returns c =
    let g = c.args.g in
    let key = c.args.key in
    ap (λ w. eqb (bit_and (key / 2 ^ (16 * (g % 4) + w - 1 - g / 4)) 1) 1) c.width_at.ensures
    ∙ shifted-bit key (get_or (width_list c.args.widths) (g % 4) 0) g (c.requires.0 (g % 4)) c.requires.2

pub pair_bit_spec : {M : Type 1} → statement M
pair_bit_spec =
    tie.close (tie.spec mul_low width-at-requires add_low sub_low sub-low-2 shr-result returns)

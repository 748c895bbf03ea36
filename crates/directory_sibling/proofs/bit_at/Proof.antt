-- `directory_sibling::bit_at` meets its contract: bit k of w bits is reached by a shift of w - (k + 1). Assumes
-- nothing.
use Prim.Native.Nat.{◌%◌, ◌≤◌}
use mathlib.Core.Path.{subst, sym}
use native.Mathlib.Omega.{arith}
use Rattle.shape.specs.Shape.{width_list}
use Rattle.directory_sibling.proofs.BitLaws.{split_bit-shifted}
use borrow.Author.Rules.{rules}
use Rattle.directory_sibling.proofs.bit_at.Statement.{statement}
use Rattle.directory_sibling.proofs.bit_at.Tie as tie

width-at-requires : tie.Need-width_at-w-requires
width-at-requires c κs = search rules

mul-encoding : tie.Need-offset_bounds-key-g
mul-encoding c = search rules

array-read-encoding : tie.Need-bounds-key-g
array-read-encoding c = search rules

add-result : tie.Need-overflow_add-result
add-result c = search rules

sub-result : tie.Need-overflow_sub-result
sub-result c = search rules

width-le : (c : tie.After-width_at-w) → c.width_at-w.result ≤ 16
width-le c = subst (λ w. w ≤ 16) (sym c.width_at-w.ensures) (c.requires.0 (c.args.g % 4))

cast-result : tie.Need-overflow_cast-result
cast-result c = record { fits = omega (arith, width-le c) }

shr-result : tie.Need-overflow_shr-result
shr-result c = omega (arith, width-le c)

returns : tie.Need-returns
returns c =
    let s = c.args in
    let h = c.requires in
    split_bit-shifted (width_list s.widths) s.key s.g c.width_at-w.result h.0 h.1 c.width_at-w.ensures

pub bit_at_spec : {M : Type 1} → statement M
bit_at_spec =
    tie.close
    (tie.spec
    width-at-requires
    mul-encoding
    array-read-encoding
    add-result
    sub-result
    cast-result
    shr-result
    returns)

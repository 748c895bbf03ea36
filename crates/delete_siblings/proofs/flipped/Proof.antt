-- `delete_siblings::flipped` meets its contract: 1 is shifted to the place of the bit. Assumes nothing.
use Prim.Native.Nat.{◌%◌, ◌≤◌}
use mathlib.Core.Path.{subst, sym}
use native.Mathlib.Omega.{arith}
use Rattle.shape.specs.Shape.{width_list}
use Rattle.delete_siblings.proofs.KeyLaws.{flipped_key-shift}
use borrow.Author.Rules.{rules}
use Rattle.delete_siblings.proofs.flipped.Statement.{statement}
use Rattle.delete_siblings.proofs.flipped.Tie as tie

width-le : (c : tie.After-width_at-w) → c.width_at-w.result ≤ 16
width-le c =
    subst (λ n. n ≤ 16) (sym c.width_at-w.ensures) (c.requires.0 (c.args.g % 4))

width-at-requires : tie.Need-width_at-w-requires
width-at-requires c κs = search rules

mul-result : tie.Need-overflow_mul-result
mul-result c = search rules

add-result : tie.Need-overflow_add-result
add-result c = search rules

sub-result : tie.Need-overflow_sub-result
sub-result c = search rules

add-result-2 : tie.Need-overflow_add-result-2
add-result-2 c = record { fits = omega (arith, width-le c) }

shl-result : tie.Need-overflow_shl-result
shl-result c = omega (arith, width-le c)

returns : tie.Need-returns
returns c =
    flipped_key-shift (width_list c.args.widths) c.requires.0 c.args.g c.args.key c.width_at-w.result
    c.requires.1 c.width_at-w.ensures

pub flipped_spec : {M : Type 1} → statement M
flipped_spec =
    tie.close
    (tie.spec
    width-at-requires
    mul-result
    add-result
    sub-result
    add-result-2
    shl-result
    returns)

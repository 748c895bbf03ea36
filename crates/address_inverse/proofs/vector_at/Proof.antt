-- `address_inverse::vector_at` meets its contract: the leading zeros give the step that appended the address.
-- Assumes nothing.
use Prim.Native.Nat.{◌+◌, ◌-◌, ◌≤◌, ◌<◌, ◌^◌}
use mathlib.Core.Path.{sym, subst}
use native.Mathlib.Omega.{arith}
use lib.Count.{count_leading_zeros}
use Rattle.lists.proofs.Numbers.{pow_below}
use Rattle.lists.proofs.Shifts.{leading-bounds}
use mathlib.Core.List.{[], ◌∷◌}
use Rattle.shape.specs.Shape.{width_list}
use Rattle.address.specs.Vectors.{IndexAt}
use Rattle.address_inverse.proofs.InverseLaws.{index_at-zero}
use borrow.Author.Rules.{rules}
use Rattle.address_inverse.proofs.vector_at.Statement.{statement}
use Rattle.address_inverse.proofs.vector_at.Tie as tie

bounds : (c : tie.Else-a-eq0) → let a = c.args.a in
    (count_leading_zeros 64 a ≤ 63) × (2 ^ (63 - count_leading_zeros 64 a) ≤ a) × (a < 2 ^ (63 - count_leading_zeros 64 a + 1))
bounds c = leading-bounds c.args.a c.if-a-eq0.false c.ranges.a.fits

returns : tie.Need-returns-then-a-eq0
returns c =
    let ws = width_list c.args.widths in
    subst (λ a. IndexAt ws a (0 ∷ 0 ∷ 0 ∷ 0 ∷ [])) (sym c.if-a-eq0.true) (index_at-zero ws)

cast_t : tie.Need-overflow_cast-t
cast_t c = record { fits = omega (arith, (bounds c).0) }

sub-t : tie.Need-overflow_sub-t
sub-t c = (bounds c).0

step-place-requires : tie.Need-step_place-g-requires
step-place-requires c κs =
    let p = c.requires in
    (p.0, pow_below _ _ c.args.a (bounds c).1 p.1)

index-before-requires : tie.Need-index_before-requires
index-before-requires c κs =
    let b = bounds c.before in
    record { fit = c.requires.0; from = b.1; past = b.2; pair = c.step_place-g.ensures }

returns-2 : tie.Need-returns
returns-2 c = search rules

pub vector_at_spec : {M : Type 1} → statement M
vector_at_spec =
    tie.close (tie.spec returns cast_t sub-t step-place-requires index-before-requires returns-2)

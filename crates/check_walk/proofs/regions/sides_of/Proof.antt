-- `check_walk::regions::sides_of` meets its contract: the step is that of the region's depth. Assumes nothing.
use Prim.Native.Nat.{◌<◌}
use mathlib.Core.Path.{refl}
use native.Mathlib.Omega.{arith}
use borrow.Author.Rules.{rules}
use Rattle.shape.proofs.ShapeLaws.{total-le}
use Rattle.shape.specs.Shape.{width_list}
use Rattle.check_walk.proofs.RegionLaws.{string-lt, region-small, upper-in_box, sides_of-parts}
use Rattle.check_walk.proofs.RegionLaws.{string-lower, string-upper}
use Rattle.check_walk.proofs.regions.sides_of.Statement.{statement}
use Rattle.check_walk.proofs.regions.sides_of.Tie as tie

few : (c : tie.Start) → c.args.region.depth < 64
few c = omega (arith, c.requires.1, total-le (width_list c.args.widths) refl c.requires.0)

step-from-requires : tie.Need-step_from-step-requires
step-from-requires c κs = search rules

with-bit-requires : tie.Need-with_bit-set-requires
with-bit-requires c κs =
    let pair = c.step_from-step.ensures in
    (pair.low, region-small _ _ c.requires.2 c.requires.0 _ pair)

add-t9 : tie.Need-overflow_add-lower
add-t9 c = search rules

add-t10 : tie.Need-overflow_add-lower-2
add-t10 c = record { fits = omega (arith, few c.before.before.before.before.before) }

locate-requires : tie.Need-locate-requires
locate-requires c κs =
    upper-in_box _ _ c.requires.2 c.requires.0 _ c.step_from-step.ensures _ c.with_bit-set.ensures

add-t10-2 : tie.Need-overflow_add-upper
add-t10-2 c = search rules

add-t11 : tie.Need-overflow_add-upper-2
add-t11 c = record { fits = omega (arith, few c.before.before.before.before.before.before.before) }

returns : tie.Need-returns
returns c =
    let low = string-lt _ _ c.requires.2 in
    sides_of-parts _ c.args.region c.requires.2 c.requires.0 _ c.step_from-step.ensures _ refl refl refl refl
    (string-lower _ _ low (few c.before.before.before.before.before.before.before)) (string-upper _ _ low (few c.before.before.before.before.before.before.before)) refl c.with_bit-set.ensures refl
    c.locate.ensures

pub sides_of_spec : {M : Type 1} → statement M
sides_of_spec =
    tie.close
    (tie.spec
    step-from-requires
    with-bit-requires
    add-t9
    add-t10
    locate-requires
    add-t10-2
    add-t11
    returns)

-- `file_parts::shape_bytes` meets its contract: d, each width, b and the marks of at most four attributes fit a byte.
-- Assumes nothing.
use Prim.Native.Nat.{◌≤◌}
use mathlib.Core.List.{[], ◌∷◌, ◌++◌}
use native.Mathlib.Omega.{arith}
use lib.Pow.{pow_pos, pow_mono}
use borrow.Author.Rules.{rules}
use Rattle.shape.specs.Shape.{Fit, width_list}
use Rattle.shape.proofs.BoundsLaws.{attributes-le}
use Rattle.shape.proofs.ShapeLaws.{in_bounds-of, widths-fit, capacity-bounds}
use Rattle.file_parts.proofs.EndLaws.{marks-lt}
use Rattle.file_parts.proofs.shape_bytes.Statement.{statement}
use Rattle.file_parts.proofs.shape_bytes.Tie as tie

fit : (c : tie.After-widths_of-widths) → Fit (width_list c.widths_of-widths.result)
fit c = widths-fit c.args.shape (width_list c.widths_of-widths.result) c.requires c.widths_of-widths.ensures

attributes-bound : (c : tie.Start) → c.args.shape.attributes ≤ 4
attributes-bound c = attributes-le c.args.shape (in_bounds-of c.args.shape c.requires)

widths-of-requires : tie.Need-widths_of-widths-requires
widths-of-requires c κs = search rules

marks-below-requires : tie.Need-marks_below-marks-requires
marks-below-requires c κs = omega (arith, attributes-bound c.before)

cast-t4 : tie.Need-overflow_cast-result
cast-t4 c = record { fits = omega (arith, attributes-bound c.before.before.before) }

cast-t5 : tie.Need-overflow_cast-result-2
cast-t5 c = record { fits = omega (arith, fit c.before.before.before 0) }

cast-t6 : tie.Need-overflow_cast-result-3
cast-t6 c = record { fits = omega (arith, fit c.before.before.before.before 1) }

cast-t7 : tie.Need-overflow_cast-result-4
cast-t7 c = record { fits = omega (arith, fit c.before.before.before.before.before 2) }

cast-t8 : tie.Need-overflow_cast-result-5
cast-t8 c = record { fits = omega (arith, fit c.before.before.before.before.before.before 3) }

cast-t9 : tie.Need-overflow_cast-result-6
cast-t9 c =
    record { fits = omega (arith, (capacity-bounds c.args.shape c.requires).1) }

cast-t10 : tie.Need-overflow_cast-result-7
cast-t10 c =
    let positive = pow_pos c.args.shape.attributes in
    let bound = pow_mono {j = 4} (attributes-bound c.before.before.before.before.before.before.before.before) in
    record { fits = marks-lt _ _ _ c.marks_below-marks.ensures (omega arith) (omega arith) }

returns : tie.Need-returns
returns c =
    let shape = c.args.shape in
    λ i. shape.attributes
    ∷ (c.widths_of-widths.ensures i ++ shape.capacity ∷ c.marks_below-marks.ensures i ∷ 0 ∷ [])

pub shape_bytes_spec : {M : Type 1} → statement M
shape_bytes_spec =
    tie.close
    (tie.spec
    widths-of-requires
    marks-below-requires
    cast-t4
    cast-t5
    cast-t6
    cast-t7
    cast-t8
    cast-t9
    cast-t10
    returns)

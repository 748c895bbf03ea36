-- `fresh::fresh_shape` meets its contract: each width is at most 16, so that it fits 32 bits. Assumes nothing.
use native.Mathlib.Omega.{arith}
use borrow.Author.Rules.{rules}
use Rattle.shape.specs.Shape.{Fit, width_list}
use Rattle.shape.proofs.BoundsLaws.{attributes-le}
use Rattle.shape.proofs.ShapeLaws.{in_bounds-of, widths-fit}
use Rattle.model.specs.Limits.{fresh_shape}
use Rattle.fresh.proofs.fresh_shape.Statement.{statement}
use Rattle.fresh.proofs.fresh_shape.Tie as tie

fit : (c : tie.After-widths_of-used) → Fit (width_list c.widths_of-used.result)
fit c = widths-fit c.args.shape (width_list c.widths_of-used.result) c.requires c.widths_of-used.ensures

widths-of-requires : tie.Need-widths_of-used-requires
widths-of-requires c κs = search rules

cast-t4 : tie.Need-overflow_cast-widths
cast-t4 c = record { fits = omega (arith, fit c.before 0) }

cast-t5 : tie.Need-overflow_cast-widths-2
cast-t5 c = record { fits = omega (arith, fit c.before.before 1) }

cast-t6 : tie.Need-overflow_cast-widths-3
cast-t6 c = record { fits = omega (arith, fit c.before.before.before 2) }

cast-t7 : tie.Need-overflow_cast-widths-4
cast-t7 c = record { fits = omega (arith, fit c.before.before.before.before 3) }

marks-below-requires : tie.Need-marks_below-requires
marks-below-requires c κs =
    omega (arith, attributes-le c.args.shape (in_bounds-of c.args.shape c.requires))

returns : tie.Need-returns
unfolding fresh_shape
returns c =
    let shape = c.args.shape in
    λ i. record {
      attributes = shape.attributes;
      widths = c.widths_of-used.ensures i;
      capacity = shape.capacity;
      signs = c.marks_below.ensures i;
    }

pub fresh_shape_spec : {M : Type 1} → statement M
fresh_shape_spec = tie.close (tie.spec widths-of-requires cast-t4 cast-t5 cast-t6 cast-t7 marks-below-requires returns)

-- `refusals::encodings_fit` meets its contract: a shift by a width leaves what an encoding has past it. Assumes
-- nothing.
use mathlib.Core.Path.{◌≡◌}
use native.Mathlib.Omega.{arith}
use lib.ListN.{length}
use borrow.Author.Rules.{rules}
use Rattle.shape.specs.Shape.{Fit, width_list}
use Rattle.shape.proofs.ShapeLaws.{widths-fit}
use Rattle.refusals.proofs.FitLaws.{index_fits-past}
use Rattle.refusals.proofs.encodings_fit.Statement.{statement}
use Rattle.refusals.proofs.encodings_fit.Tie as tie

-- the array of a key's numbers has four: what owning the key tells
four : (c : tie.Start) → length c.args.encoded.values ≡ 4
four c = c.well_formed.1.0.1.1.0.1.0.1

fit : (c : tie.After-widths_of-widths) → Fit (width_list c.widths_of-widths.result)
fit c =
    widths-fit c.args.shape (width_list c.widths_of-widths.result) c.requires c.widths_of-widths.ensures

widths-of-requires : tie.Need-widths_of-widths-requires
widths-of-requires c κs = search rules

array-read-low : tie.Need-bounds-values-0
array-read-low c = search rules

cast-low : tie.Need-overflow_cast-low
cast-low c = search rules

shr-low : tie.Need-overflow_shr-low
shr-low c = omega (arith, fit c.before 0)

array-read-low-2 : tie.Need-bounds-values-1
array-read-low-2 c = search rules

cast-low-2 : tie.Need-overflow_cast-low-2
cast-low-2 c = search rules

shr-low-2 : tie.Need-overflow_shr-low-2
shr-low-2 c = omega (arith, fit c.before.before 1)

array-read-high : tie.Need-bounds-values-2
array-read-high c = search rules

cast-high : tie.Need-overflow_cast-high
cast-high c = search rules

shr_high : tie.Need-overflow_shr-high
shr_high c = omega (arith, fit c.before.before.before 2)

array-read-high-2 : tie.Need-bounds-values-3
array-read-high-2 c = search rules

cast-high-2 : tie.Need-overflow_cast-high-2
cast-high-2 c = search rules

shr-high-2 : tie.Need-overflow_shr-high-2
shr-high-2 c = omega (arith, fit c.before.before.before.before 3)

returns : tie.Need-returns
returns c =
    let a = c.args in
    index_fits-past a.shape a.encoded.values (four c.before.before.before.before.before.before) (width_list c.widths_of-widths.result)
    c.widths_of-widths.ensures

pub encodings_fit_spec : {M : Type 1} → statement M
encodings_fit_spec =
    tie.close
    (tie.spec
    widths-of-requires
    array-read-low
    cast-low
    shr-low
    array-read-low-2
    cast-low-2
    shr-low-2
    array-read-high
    cast-high
    shr_high
    array-read-high-2
    cast-high-2
    shr-high-2
    returns)

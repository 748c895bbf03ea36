-- Each way that the test ends is the first row of the three that holds.
use Rattle.std.proofs.Common.{◌≡◌, true, false}
use Rattle.shape.specs.Refusal.{answered_by}
use Rattle.shape.specs.Shape.{count_fits, widths_fit, capacity_fits, shape_conditions}
use Rattle.shape.proofs.validate.Goals as goal

pub returns-then-not-in_range : goal.returns-then-not-in_range
unfolding answered_by shape_conditions
returns-then-not-in_range c =
    let count : count_fits c.args.shape ≡ false = cc in
    rw count

pub returns-then-not-widths_fit : goal.returns-then-not-widths_fit
unfolding answered_by shape_conditions
returns-then-not-widths_fit c =
    let count : count_fits c.args.shape ≡ true = cc in
    let widths : widths_fit c.args.shape ≡ false = cc in
    rw (c.bad_width.ensures, count, widths)

pub returns-then-not-in_range-2 : goal.returns-then-not-in_range-2
unfolding answered_by shape_conditions
returns-then-not-in_range-2 c =
    let count : count_fits c.args.shape ≡ true = cc in
    let widths : widths_fit c.args.shape ≡ true = cc in
    let capacity : capacity_fits c.args.shape ≡ false = cc in
    rw (count, widths, capacity)

pub returns : goal.returns
unfolding answered_by shape_conditions
returns c =
    let count : count_fits c.args.shape ≡ true = cc in
    let widths : widths_fit c.args.shape ≡ true = cc in
    let capacity : capacity_fits c.args.shape ≡ true = cc in
    rw (count, widths, capacity)

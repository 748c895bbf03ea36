-- `refusals::limits_hold` meets its contract: each test that fails decides, and the last one otherwise. Assumes
-- nothing.
use mathlib.Core.Path.{◌≡◌, ap, ◌∙◌}
use native.Mathlib.Omega.{arith}
use Rattle.shape.specs.Shape.{widths_of, width_list, total}
use Rattle.shape.proofs.ShapeLaws.{widths-fit}
use Rattle.refusals.proofs.LimitsLaws.{limits_hold-no-page, limits_hold-pages, limits_hold-deep, limits_hold-bits}
use Rattle.refusals.proofs.LimitsLaws.{limits_hold-depth}
use borrow.Author.Rules.{rules}
use Rattle.refusals.proofs.limits_hold.Statement.{statement}
use Rattle.refusals.proofs.limits_hold.Tie as tie

-- what is computed is W
bits : (c : tie.After-total_of)
    → c.total_of.result
    ≡ total (widths_of c.args.state.shape)
bits c = c.total_of.ensures.0 ∙ ap total c.widths_of.ensures

returns : tie.Need-returns-then-limits-lt1
returns c = limits_hold-no-page c.args.state c.if-limits-lt1.true

returns-2 : tie.Need-returns-then-limits-gt4096
returns-2 c = limits_hold-pages c.args.state c.if-limits-gt4096.true

returns-3 : tie.Need-returns-then-limits-gt12
returns-3 c =
    let st = c.args.state in
    limits_hold-deep st (omega arith) (omega arith) c.if-limits-gt12.true

widths-of-requires : tie.Need-widths_of-requires
widths-of-requires c κs = search rules

total-of-requires : tie.Need-total_of-requires
total-of-requires c κs =
    widths-fit c.args.state.shape (width_list c.widths_of.result) c.requires c.widths_of.ensures

cast-if4 : tie.Need-overflow_cast-limits
cast-if4 c = search rules

returns-4 : tie.Need-returns-then-total_of-limits
returns-4 c =
    let st = c.args.state in
    limits_hold-bits st (omega arith) (omega arith) (omega arith) (omega (arith, bits c.before.before))

returns-5 : tie.Need-returns
returns-5 c =
    let st = c.args.state in
    limits_hold-depth st (omega arith) (omega arith) (omega arith) (omega (arith, bits c.before.before.before.before))

pub limits_hold_spec : {M : Type 1} → statement M
limits_hold_spec =
    tie.close
    (tie.spec
    returns
    returns-2
    returns-3
    widths-of-requires
    total-of-requires
    cast-if4
    returns-4
    returns-5)

-- `query_rows::row_at` meets its contract: its numbers are those of the step at place g. Assumes nothing.
use Prim.Native.Nat.{◌/◌, ◌%◌, ◌≤◌, ◌<◌}
use mathlib.Core.Path.{sym, subst}
use native.Mathlib.Omega.{arith}
use Rattle.shape.specs.Key.{wanted_values}
use Rattle.query_rows.proofs.RowLaws.{shifts-le, step_row-pair}
use borrow.Author.Rules.{rules}
use Rattle.query_rows.proofs.row_at.Statement.{statement}
use Rattle.query_rows.proofs.row_at.Tie as tie

other-depth-requires : tie.Need-other_depth-h0-requires
other-depth-requires c κs =
    record { low = c.requires.low; attribute = omega arith; width = c.requires.fit 0 }

other-depth-requires-2 : tie.Need-other_depth-h1-requires
other-depth-requires-2 c κs =
    record { low = c.requires.low; attribute = omega arith; width = c.requires.fit 1 }

other-depth-requires-3 : tie.Need-other_depth-h2-requires
other-depth-requires-3 c κs =
    record { low = c.requires.low; attribute = omega arith; width = c.requires.fit 2 }

other-depth-requires-4 : tie.Need-other_depth-h3-requires
other-depth-requires-4 c κs =
    record { low = c.requires.low; attribute = omega arith; width = c.requires.fit 3 }

add-all : tie.Need-overflow_add-all
add-all c = search rules

add-all-2 : tie.Need-overflow_add-all-2
add-all-2 c = search rules

add-all-3 : tie.Need-overflow_add-all-3
add-all-3 c = search rules

width-at-requires : tie.Need-width_at-width-requires
width-at-requires c κs = search rules

-- the step's bit is one of its attribute's
width-live : (c : tie.After-width_at-width) → c.args.g / 4 < c.width_at-width.result
width-live c =
    subst (λ w. c.args.g / 4 < w) (sym c.width_at-width.ensures) c.requires.live

add-shift-of : tie.Need-overflow_add-h1
add-shift-of c = search rules

add-shift-of-2 : tie.Need-overflow_add-h1-2
add-shift-of-2 c = search rules

shift-of-requires : tie.Need-shift_of-s0-requires
shift-of-requires c κs = search rules

add-shift-of-3 : tie.Need-overflow_add-h2
add-shift-of-3 c = search rules

shift-of-requires-2 : tie.Need-shift_of-s1-requires
shift-of-requires-2 c κs = search rules

shift-of-requires-3 : tie.Need-shift_of-s2-requires
shift-of-requires-3 c κs = search rules

shift-of-requires-4 : tie.Need-shift_of-s3-requires
shift-of-requires-4 c κs = search rules

-- no shift passes 12
small : (c : tie.After-shift_of-s3) → (c.shift_of-s0.result ≤ 12)
    × (c.shift_of-s1.result ≤ 12)
    × (c.shift_of-s2.result ≤ 12)
    × (c.shift_of-s3.result ≤ 12)
small c =
    let w = c.args.widths in
    shifts-le w.w0 w.w1 w.w2 w.w3 c.requires.fit c.args.g c.requires.low c.requires.live c.requires.deep
    _ _ _ _ _ _ _ _
    c.other_depth-h0.ensures.0 c.other_depth-h1.ensures.0
    c.other_depth-h2.ensures.0 c.other_depth-h3.ensures.0
    c.shift_of-s0.ensures c.shift_of-s1.ensures
    c.shift_of-s2.ensures c.shift_of-s3.ensures

multiplier-of-requires : tie.Need-multiplier_of-requires
multiplier-of-requires c κs = ((small c).0, (small c).1)

multiplier-of-requires-2 : tie.Need-multiplier_of-requires-2
multiplier-of-requires-2 c κs = ((small c.before).2, (small c.before).3)

mul-t18 : tie.Need-overflow_mul-result
mul-t18 c = search rules

add-t19 : tie.Need-overflow_add-result
add-t19 c = search rules

shl-t20 : tie.Need-overflow_shl-result
shl-t20 c = search rules

wanted-bit-requires : tie.Need-wanted_bit-requires
wanted-bit-requires c κs =
    let live = width-live c.before.before.before.before.before.before in
    record {
      attribute = omega arith;
      bit = live;
      width = omega (arith, c.width_at-width.ensures, c.requires.fit (c.args.g % 4));
    }

mul-t23 : tie.Need-overflow_mul-result-2
mul-t23 c = search rules

sub-t24 : tie.Need-overflow_sub-result
sub-t24 c = search rules

sub-t25 : tie.Need-overflow_sub-result-2
sub-t25 c = search rules

add-t26 : tie.Need-overflow_add-result-2
add-t26 c =
    omega (arith, width-live c.before.before.before.before.before.before.before, c.width_at-width.ensures, c.requires.fit (c.args.g % 4))

shl-t27 : tie.Need-overflow_shl-result-2
shl-t27 c =
    omega (arith, width-live c.before.before.before.before.before.before.before, c.width_at-width.ensures, c.requires.fit (c.args.g % 4))

returns : tie.Need-returns
returns c =
    let w = c.args.widths in
    step_row-pair w.w0 w.w1 w.w2 w.w3 c.requires.fit c.args.g c.requires.low c.requires.live
    (wanted_values c.args.query) _ _ _ _ _ _ _ _ _ _ _ _
    c.other_depth-h0.ensures.0 c.other_depth-h1.ensures.0
    c.other_depth-h2.ensures.0 c.other_depth-h3.ensures.0
    c.shift_of-s0.ensures c.shift_of-s1.ensures
    c.shift_of-s2.ensures c.shift_of-s3.ensures
    c.multiplier_of.ensures c.multiplier_of-2.ensures
    c.width_at-width.ensures c.wanted_bit.ensures

pub row_at_spec : {M : Type 1} → statement M
row_at_spec =
    tie.close
    (tie.spec
    other-depth-requires
    other-depth-requires-2
    other-depth-requires-3
    other-depth-requires-4
    add-all
    add-all-2
    add-all-3
    width-at-requires
    add-shift-of
    add-shift-of-2
    shift-of-requires
    add-shift-of-3
    shift-of-requires-2
    shift-of-requires-3
    shift-of-requires-4
    multiplier-of-requires
    multiplier-of-requires-2
    mul-t18
    add-t19
    shl-t20
    wanted-bit-requires
    mul-t23
    sub-t24
    sub-t25
    add-t26
    shl-t27
    returns)

-- `address_inverse::index_before` meets its contract: the digits taken off are the indices. Assumes nothing.
use Prim.Native.Nat.{◌≤◌}
use native.Mathlib.Omega.{arith}
use Rattle.shape.specs.Shape.{width_list}
use Rattle.split.proofs.StepLaws.{depth_before}
use Rattle.address_inverse.proofs.InverseLaws.{index_at-digits}
use borrow.Author.Rules.{rules}
use Rattle.address_inverse.proofs.index_before.Statement.{statement}
use Rattle.address_inverse.proofs.index_before.Tie as tie

-- no depth is above its width
deep : (c : tie.After-depth_before-h3) → (c.depth_before-h0.result ≤ 16)
    × (c.depth_before-h1.result ≤ 16) × (c.depth_before-h2.result ≤ 16)
    × (c.depth_before-h3.result ≤ 16)
deep c =
    let fit = c.requires.fit in (
      omega (arith, c.depth_before-h0.ensures, fit 0),
      omega (arith, c.depth_before-h1.ensures, fit 1),
      omega (arith, c.depth_before-h2.ensures, fit 2),
      omega (arith, c.depth_before-h3.ensures, fit 3),
    )

depth-before-requires : tie.Need-depth_before-h0-requires
depth-before-requires c κs = search rules

depth-before-requires-2 : tie.Need-depth_before-h1-requires
depth-before-requires-2 c κs = search rules

depth-before-requires-3 : tie.Need-depth_before-h2-requires
depth-before-requires-3 c κs = search rules

depth-before-requires-4 : tie.Need-depth_before-h3-requires
depth-before-requires-4 c κs = search rules

drop-digit-requires : tie.Need-drop_digit-a3-requires
drop-digit-requires c κs = (deep c).3

drop-digit-requires-2 : tie.Need-drop_digit-a2-requires
drop-digit-requires-2 c κs = (deep c.before).2

drop-digit-requires-3 : tie.Need-drop_digit-a1-requires
drop-digit-requires-3 c κs = (deep c.before.before).1

drop-digit-requires-4 : tie.Need-drop_digit-a0-requires
drop-digit-requires-4 c κs = (deep c.before.before.before).0

digit-of-requires : tie.Need-digit_of-i0-requires
digit-of-requires c κs = (deep c.before.before.before.before).0

digit-of-requires-2 : tie.Need-digit_of-i1-requires
digit-of-requires-2 c κs = (deep c.before.before.before.before.before).1

digit-of-requires-3 : tie.Need-digit_of-i2-requires
digit-of-requires-3 c κs = (deep c.before.before.before.before.before.before).2

digit-of-requires-4 : tie.Need-digit_of-i3-requires
digit-of-requires-4 c κs = (deep c.before.before.before.before.before.before.before).3

returns : tie.Need-returns
unfolding depth_before
returns c =
    index_at-digits (width_list c.args.widths) c.args.a c.args.t c.args.g
    c.depth_before-h0.result c.depth_before-h1.result c.depth_before-h2.result c.depth_before-h3.result
    c.requires
    c.depth_before-h0.ensures c.depth_before-h1.ensures c.depth_before-h2.ensures c.depth_before-h3.ensures
    c.drop_digit-a3.result c.drop_digit-a2.result c.drop_digit-a1.result c.drop_digit-a0.result
    c.drop_digit-a3.ensures c.drop_digit-a2.ensures c.drop_digit-a1.ensures c.drop_digit-a0.ensures
    c.digit_of-i0.result c.digit_of-i1.result c.digit_of-i2.result
    c.digit_of-i3.result c.digit_of-i0.ensures c.digit_of-i1.ensures
    c.digit_of-i2.ensures c.digit_of-i3.ensures

pub index_before_spec : {M : Type 1} → statement M
index_before_spec =
    tie.close
    (tie.spec
    depth-before-requires
    depth-before-requires-2
    depth-before-requires-3
    depth-before-requires-4
    drop-digit-requires
    drop-digit-requires-2
    drop-digit-requires-3
    drop-digit-requires-4
    digit-of-requires
    digit-of-requires-2
    digit-of-requires-3
    digit-of-requires-4
    returns)

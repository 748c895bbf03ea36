-- `change_guard::joined_depth` meets its contract: T is the greatest depth of the tally after the join. Assumes
-- nothing.
use Prim.Native.Nat.{◌-◌, ◌≤◌}
use mathlib.Core.Path.{◌≡◌, ap, ◌∙◌}
use native.Mathlib.Omega.{arith}
use borrow.Author.Rules.{rules}
use Rattle.change.specs.Delete.{joined_tally, tally_depth}
use Rattle.change.proofs.DeleteTallyLaws.{tally_depth-le}
use Rattle.change_kept.specs.Tested.{joined_depth}
use Rattle.change_guard.proofs.joined_depth.Statement.{statement}
use Rattle.change_guard.proofs.joined_depth.Tie as tie

depth_is : (c : tie.After-greatest_depth) → let a = c.args in
    c.greatest_depth.result ≡ joined_depth a.state a.join
depth_is c =
    let a = c.args in
    c.greatest_depth.ensures
    ∙ ap (tally_depth a.state.deepest)
    (c.join-tally.ensures
    ∙ ap (λ x. joined_tally a.join.top (x - a.join.top) a.state.tally.leaves) c.requires.1.depth-step)

depth_le : (c : tie.After-greatest_depth)
    → c.greatest_depth.result ≤ c.args.state.deepest
depth_le c =
    let a = c.args in
    omega (
      arith,
      c.greatest_depth.ensures,
      tally_depth-le c.join-tally.result.leaves a.state.deepest,
    )

sub-levels : tie.Need-overflow_sub-levels
sub-levels c = search rules

cast-join : tie.Need-overflow_cast-join
cast-join c = search rules

cast-join-2 : tie.Need-overflow_cast-levels
cast-join-2 c = search rules

join-requires : tie.Need-join-tally-requires
join-requires c κs = search rules

cast-greatest-depth : tie.Need-overflow_cast-state
cast-greatest-depth c = search rules

greatest-depth-requires : tie.Need-greatest_depth-requires
greatest-depth-requires c κs = search rules

cast-result : tie.Need-overflow_cast-result
cast-result c = omega (arith, depth_le c, c.requires.0)

returns : tie.Need-returns
returns c = record { is = depth_is c; at_most = depth_le c }

pub joined_depth_spec : {M : Type 1} → statement M
joined_depth_spec =
    tie.close
    (tie.spec
    sub-levels
    cast-join
    cast-join-2
    join-requires
    cast-greatest-depth
    greatest-depth-requires
    cast-result
    returns)

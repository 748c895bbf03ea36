-- `delete_steps::join_tally` meets its contract: as many joins as the new leaf lies higher. Assumes nothing.
use Prim.Native.Nat.{◌-◌}
use mathlib.Core.Path.{ap, ◌∙◌}
use native.Mathlib.Omega.{arith}
use Rattle.change.specs.Delete.{joined_tally}
use borrow.Author.Rules.{rules}
use Rattle.delete_steps.proofs.join_tally.Statement.{statement}
use Rattle.delete_steps.proofs.join_tally.Tie as tie

cast-joined : tie.Need-overflow_cast-join
cast-joined c = search rules

sub-joined : tie.Need-overflow_sub-found
sub-joined c =
    let l = c.requires.1 in
    omega (arith, l.depth-step, l.above)

cast-joined-2 : tie.Need-overflow_cast-found
cast-joined-2 c = search rules

joined-requires : tie.Need-joined-requires
joined-requires c κs =
    let pre = c.requires in
    let l = pre.1 in
    (omega (arith, pre.0, l.deep, l.depth-step, l.above), l.tally)

returns : tie.Need-returns
returns c =
    let a = c.args in
    c.joined.ensures
    ∙ ap (λ x. joined_tally a.join.top (x - a.join.top) a.state.tally.leaves) c.requires.1.depth-step

pub join_tally_spec : {M : Type 1} → statement M
join_tally_spec =
    tie.close
    (tie.spec cast-joined sub-joined cast-joined-2 joined-requires returns)

-- `insert_words::count_leaves` meets its contract: the tally is that of the divided leaf. Assumes nothing.
use Prim.Native.Nat.{suc, ◌+◌, ◌-◌}
use mathlib.Core.Path.{◌≡◌, refl, ap, ◌∙◌}
use native.Mathlib.Omega.{arith}
use borrow.Author.Rules.{rules}
use Rattle.change.specs.Divided.{divided_tally}
use Rattle.insert_words.proofs.count_leaves.Statement.{statement}
use Rattle.insert_words.proofs.count_leaves.Tie as tie

-- where the function began
abbrev start : tie.After-struct_known-2-1 → tie.Start
start c = c.before.before.before.before

cast-x : tie.Need-overflow_cast-x
cast-x c = search rules

add-levels : tie.Need-overflow_add-levels
add-levels c = omega (arith, (start c).requires.short)

sub-levels : tie.Need-overflow_sub-levels
sub-levels c = omega (arith, (start c).requires.below)

divided-requires : tie.Need-divided-tally-requires
divided-requires c κs =
    let s = start c.before in
    (omega (arith, s.requires.below, s.requires.short), s.requires.tally)

returns : tie.Need-returns
returns c =
    let s = start c.before.before in
    let a = s.args in
    let levels : a.split.step + 1 - a.split.depth ≡ suc (a.split.step - a.split.depth) =
    omega (arith, s.requires.below) in
    record {
      state = refl;
      tallied = c.divided-tally.ensures ∙ ap (λ n. divided_tally a.split.depth n a.state.tally.leaves) levels;
    }

pub count_leaves_spec : {M : Type 1} → statement M
count_leaves_spec = tie.close (tie.spec cast-x add-levels sub-levels divided-requires returns)

-- `key_between::not_below` meets its contract: one subtraction compares two values. Assumes nothing.
use Prim.Native.Nat.{◌+◌, ◌-◌}
use mathlib.Core.Path.{◌∙◌}
use lib.Bits.{bit_and}
use Rattle.key_between.proofs.BetweenLaws.{even_flags-not_below}
use borrow.Author.Rules.{rules}
use Rattle.key_between.proofs.not_below.Statement.{statement}
use Rattle.key_between.proofs.not_below.Tie as tie

even-values-requires : tie.Need-even_values-requires
even-values-requires c κs = search rules

add-result : tie.Need-overflow_add-result
add-result c = search rules

even-values-requires-2 : tie.Need-even_values-requires-2
even-values-requires-2 c κs = search rules

sub-result : tie.Need-overflow_sub-result
sub-result c = search rules

returns : tie.Need-returns
returns c =
    let a = c.args in
    let second = c.even_values.ensures in
    let first = c.even_values-2.ensures in
    (λ i. bit_and (second i + 281474976776192 - first i) 281474976776192)
    ∙ even_flags-not_below a.first a.second

pub not_below_spec : {M : Type 1} → statement M
not_below_spec = tie.close (tie.spec even-values-requires add-result even-values-requires-2 sub-result returns)

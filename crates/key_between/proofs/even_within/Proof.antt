-- `key_between::even_within` meets its contract: not below the low end, and the high end not below. Assumes nothing.
use mathlib.Core.Path.{◌∙◌}
use lib.Bits.{bit_and}
use Rattle.key_between.specs.Private.{not_below}
use Rattle.key_between.proofs.BetweenLaws.{and-even_flags}
use borrow.Author.Rules.{rules}
use Rattle.key_between.proofs.even_within.Statement.{statement}
use Rattle.key_between.proofs.even_within.Tie as tie

not-below-requires : tie.Need-not_below-requires
not-below-requires c κs = search rules

not-below-requires-2 : tie.Need-not_below-requires-2
not-below-requires-2 c κs = search rules

returns : tie.Need-returns
returns c =
    let a = c.args in
    let low = not_below a.low a.key in
    let high = not_below a.key a.high in
    (λ i. bit_and (c.not_below.ensures i) (c.not_below-2.ensures i))
    ∙ and-even_flags (low 0) (low 2) (high 0) (high 2)

pub even_within_spec : {M : Type 1} → statement M
even_within_spec = tie.close (tie.spec not-below-requires not-below-requires-2 returns)

-- `key_between::lies_between` meets its contract: attributes 0 and 2, and behind a shift 1 and 3. Assumes nothing.
use mathlib.Core.Path.{◌∙◌}
use lib.Bits.{bit_and}
use lib.Dec.{eqb}
use Rattle.key_between.proofs.BetweenLaws.{lies_between-flags}
use borrow.Author.Rules.{rules}
use Rattle.key_between.proofs.lies_between.Statement.{statement}
use Rattle.key_between.proofs.lies_between.Tie as tie

even-within-requires : tie.Need-even_within-requires
even-within-requires c κs = search rules

even-within-requires-2 : tie.Need-even_within-requires-2
even-within-requires-2 c κs = search rules

returns : tie.Need-returns
returns c =
    let a = c.args in
    (λ i. eqb (bit_and (c.even_within.ensures i) (c.even_within-2.ensures i)) 281474976776192)
    ∙ lies_between-flags a.low a.high a.key

pub lies_between_spec : {M : Type 1} → statement M
lies_between_spec = tie.close (tie.spec even-within-requires even-within-requires-2 returns)

-- `replay_encoding::range_attribute_of` meets its contract. Assumes nothing.
use Rattle.shape.proofs.AttributeLaws.{interval_if-given}
use borrow.Author.Rules.{rules}
use Rattle.replay_encoding.proofs.range_attribute_of.Statement.{statement}
use Rattle.replay_encoding.proofs.range_attribute_of.Tie as tie

returns : tie.Need-returns-then-given-eq0
returns c = search rules

returns-2 : tie.Need-returns
returns-2 c =
    let a = c.args in
    interval_if-given a.given a.low a.high c.if-given-eq0.false

pub range_attribute_of_spec : {M : Type 1} → statement M
range_attribute_of_spec = tie.close (tie.spec returns returns-2)

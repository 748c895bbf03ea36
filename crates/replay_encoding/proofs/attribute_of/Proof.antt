-- `replay_encoding::attribute_of` meets its contract. Assumes nothing.
use Rattle.replay_encoding.proofs.EncodingLaws.{value_if-given}
use borrow.Author.Rules.{rules}
use Rattle.replay_encoding.proofs.attribute_of.Statement.{statement}
use Rattle.replay_encoding.proofs.attribute_of.Tie as tie

returns : tie.Need-returns-then-given-eq0
returns c = search rules

returns-2 : tie.Need-returns
returns-2 c = value_if-given c.args.given c.args.value c.if-given-eq0.false

pub attribute_of_spec : {M : Type 1} → statement M
attribute_of_spec = tie.close (tie.spec returns returns-2)

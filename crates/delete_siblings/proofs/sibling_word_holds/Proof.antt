-- `delete_siblings::sibling_word_holds` meets its contract. Assumes nothing.
use mathlib.Core.Path.{sym, ◌∙◌}
use borrow.Author.Rules.{rules}
use borrow.Author.Tests.{not-true, not-false}
use Rattle.delete_siblings.proofs.SiblingLaws.{sibling_holds-damaged, sibling_holds-above}
use Rattle.delete_siblings.proofs.sibling_word_holds.Statement.{statement}
use Rattle.delete_siblings.proofs.sibling_word_holds.Tie as tie

word-holds-requires : tie.Need-word_holds-requires
word-holds-requires c κs = search rules

returns : tie.Need-returns-then-not-word_holds
returns c =
    let a = c.args in
    let holds = c.word_holds in
    sibling_holds-damaged a.state a.depth a.word
    (sym holds.ensures ∙ not-true holds.result c.if-not-word_holds.true-raw)

pack-empty-requires : tie.Need-pack_empty-requires
pack-empty-requires c κs = search rules

returns-2 : tie.Need-returns
returns-2 c =
    let a = c.args in
    let holds = c.word_holds in
    sibling_holds-above a.state a.depth a.word
    (sym holds.ensures ∙ not-false holds.result c.if-not-word_holds.false-raw) _ c.pack_empty.ensures

pub sibling_word_holds_spec : {M : Type 1} → statement M
sibling_word_holds_spec = tie.close (tie.spec word-holds-requires returns pack-empty-requires returns-2)

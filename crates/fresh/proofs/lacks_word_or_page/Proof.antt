-- `fresh::lacks_word_or_page` meets its contract: the test of the words decides, then that of the bytes. Assumes
-- nothing.
use borrow.Author.Rules.{rules}
use borrow.Author.Tests.{eq-eqb, ne_eqb}
use Rattle.fresh.proofs.lacks_word_or_page.Statement.{statement}
use Rattle.fresh.proofs.lacks_word_or_page.Tie as tie

returns : tie.Need-returns-then-words-eq0
returns c = rw (eq-eqb _ 0 c.if-words-eq0.true)

cast-page-size : tie.Need-overflow_cast-shape
cast-page-size c = search rules

page-size-requires : tie.Need-page_size-requires
page-size-requires c κs = search rules

returns-2 : tie.Need-returns
returns-2 c =
    rw (ne_eqb c.args.words 0 c.if-words-eq0.false, c.page_size.ensures)

pub lacks_word_or_page_spec : {M : Type 1} → statement M
lacks_word_or_page_spec = tie.close (tie.spec returns cast-page-size page-size-requires returns-2)

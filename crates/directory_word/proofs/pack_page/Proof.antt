-- `directory_word::pack_page` meets its contract: the field is below the depth's bits. Assumes nothing.
use native.Mathlib.Omega.{arith}
use borrow.Author.Rules.{rules}
use Rattle.directory_word.proofs.LeafLaws.{or-page}
use Rattle.directory_word.proofs.pack_page.Statement.{statement}
use Rattle.directory_word.proofs.pack_page.Tie as tie

add-result : tie.Need-overflow_add-result
add-result c = search rules

returns : tie.Need-returns
returns c = or-page c.args.page c.args.depth (omega arith) c.requires.1

pub pack_page_spec : {M : Type 1} → statement M
pack_page_spec = tie.close (tie.spec add-result returns)

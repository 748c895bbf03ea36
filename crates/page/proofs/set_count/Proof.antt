-- `page::set_count` meets its contract. Assumes nothing.
use Rattle.page.specs.Changes.{counted_page}
use borrow.Author.Rules.{rules}
use Rattle.page.proofs.set_count.Statement.{statement}
use Rattle.page.proofs.set_count.Tie as tie

write16-requires : tie.Need-write16-requires
write16-requires c κs = search rules

same_length : tie.Need-shape_of-page
same_length c = search rules

returns : tie.Need-returns
unfolding counted_page
returns c = c.write16.ensures

pub set_count_spec : {M : Type 1} → statement M
set_count_spec = tie.close (tie.spec write16-requires same_length returns)

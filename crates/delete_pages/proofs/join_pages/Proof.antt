-- `delete_pages::join_pages` meets its contract: the bit says which page is carried. Assumes nothing.
use Rattle.delete_pages.specs.Private.{joined_pages}
use borrow.Author.Rules.{rules}
use Rattle.delete_pages.proofs.join_pages.Statement.{statement}
use Rattle.delete_pages.proofs.join_pages.Tie as tie

carry-requires : tie.Need-carry-requires
carry-requires c κs = search rules

same_length : tie.Need-shape_of-pages-then-bit
same_length c = search rules

returns : tie.Need-returns-then-bit
unfolding joined_pages
returns c =
    let bit = c.if-bit.true in
    record { kept = rw bit; bytes-are = rw bit c.carry.ensures }

carry-requires-2 : tie.Need-carry-requires-2
carry-requires-2 c κs = search rules

same-length-2 : tie.Need-shape_of-pages
same-length-2 c = search rules

returns-2 : tie.Need-returns
unfolding joined_pages
returns-2 c =
    let bit = c.if-bit.false in
    record { kept = rw bit; bytes-are = rw bit c.carry-2.ensures }

pub join_pages_spec : {M : Type 1} → statement M
join_pages_spec =
    tie.close
    (tie.spec carry-requires same_length returns carry-requires-2 same-length-2 returns-2)

-- `stock_text::put_byte` meets its contract. Assumes nothing.
use borrow.Author.Rules.{rules}
use Rattle.stock_text.proofs.GrownLaws.{Grown-byte}
use Rattle.stock_text.proofs.put_byte.Statement.{statement}
use Rattle.stock_text.proofs.put_byte.Tie as tie

slice-write-text : tie.Need-bounds-text-at
slice-write-text c = search rules

add-result : tie.Need-overflow_add-result
add-result c = search rules

same_length : tie.Need-shape_of-text
same_length c = search rules

returns : tie.Need-returns
returns c = Grown-byte c.args.text.now c.args.at c.args.byte c.requires

pub put_byte_spec : {M : Type 1} → statement M
put_byte_spec = tie.close (tie.spec slice-write-text add-result same_length returns)

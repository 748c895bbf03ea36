-- `stock_text::put_bytes` meets its contract: the bytes are copied. Assumes nothing.
use borrow.Author.Rules.{rules}
use Rattle.stock_text.proofs.GrownLaws.{Grown-paste}
use Rattle.stock_text.proofs.put_bytes.Statement.{statement}
use Rattle.stock_text.proofs.put_bytes.Tie as tie

copy-requires : tie.Need-copy-requires
copy-requires c κs = search rules

add-result : tie.Need-overflow_add-result
add-result c = search rules

same_length : tie.Need-shape_of-text
same_length c = search rules

returns : tie.Need-returns
returns c =
    let start = c.before.before.before.before.before.before in
    let a = start.args in
    Grown-paste a.text.now a.at a.bytes.now _ start.requires c.before.before.copy.ensures

pub put_bytes_spec : {M : Type 1} → statement M
put_bytes_spec = tie.close (tie.spec copy-requires add-result same_length returns)

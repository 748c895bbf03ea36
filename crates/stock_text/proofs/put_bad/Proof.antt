-- `stock_text::put_bad` meets its contract: the bytes given are the reply's. Assumes nothing.
use borrow.Author.Rules.{rules}
use Rattle.stock_text.specs.Text.{bad_text}
use Rattle.stock_text.proofs.put_bad.Statement.{statement}
use Rattle.stock_text.proofs.put_bad.Tie as tie

put-bytes-requires : tie.Need-put_bytes-requires
put-bytes-requires c κs = search rules

same_length : tie.Need-shape_of-text
same_length c = search rules

returns : tie.Need-returns
unfolding bad_text
returns c = c.before.before.put_bytes.ensures

pub put_bad_spec : {M : Type 1} → statement M
put_bad_spec = tie.close (tie.spec put-bytes-requires same_length returns)

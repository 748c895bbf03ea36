-- `stock_text::put_sum` meets its contract: the total, then the reads. Assumes nothing.
use borrow.Author.Rules.{rules}
use Rattle.stock_text.specs.Text.{sum_text}
use Rattle.stock_text.proofs.GrownLaws.{Grown-then}
use Rattle.stock_text.proofs.put_sum.Statement.{statement}
use Rattle.stock_text.proofs.put_sum.Tie as tie

put-bytes-requires : tie.Need-put_bytes-start-requires
put-bytes-requires c κs = search rules

put-field-requires : tie.Need-put_field-end-requires
put-field-requires c κs = search rules

put-field-requires-2 : tie.Need-put_field-requires
put-field-requires-2 c κs = search rules

same_length : tie.Need-shape_of-text
same_length c = search rules

returns : tie.Need-returns
unfolding sum_text
returns c =
    let reads = c.before.before in
    let total = reads.before.before.before.before in
    let first = total.before.before.before.before in
    Grown-then _ _ _ _ _ _ _ _ first.put_bytes-start.ensures
    (Grown-then _ _ _ _ _ _ _ _ total.put_field-end.ensures.0 reads.put_field.ensures.0)

pub put_sum_spec : {M : Type 1} → statement M
put_sum_spec =
    tie.close
    (tie.spec
    put-bytes-requires
    put-field-requires
    put-field-requires-2
    same_length
    returns)

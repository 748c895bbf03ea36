-- `stock_text::put_refused` meets its contract: the number stands behind `no`. Assumes nothing.
use borrow.Author.Rules.{rules}
use Rattle.stock_text.specs.Text.{refused_text}
use Rattle.stock_text.proofs.GrownLaws.{Grown-then}
use Rattle.stock_text.proofs.put_refused.Statement.{statement}
use Rattle.stock_text.proofs.put_refused.Tie as tie

put-bytes-requires : tie.Need-put_bytes-end-requires
put-bytes-requires c κs = search rules

put-field-requires : tie.Need-put_field-requires
put-field-requires c κs = search rules

same_length : tie.Need-shape_of-text
same_length c = search rules

returns : tie.Need-returns
unfolding refused_text
returns c =
    let call = c.before.before in
    Grown-then _ _ _ _ _ _ _ _ call.before.before.before.before.put_bytes-end.ensures call.put_field.ensures.0

pub put_refused_spec : {M : Type 1} → statement M
put_refused_spec =
    tie.close
    (tie.spec put-bytes-requires put-field-requires same_length returns)

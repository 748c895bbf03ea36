-- `page::code_at` meets its contract: the fields and the bias, value by value. Assumes nothing.
use mathlib.Core.Path.{ap, ◌∙◌}
use Rattle.record.specs.Lanes.{lane_sum}
use borrow.Author.Rules.{rules}
use Rattle.page.proofs.code_at.Statement.{statement}
use Rattle.page.proofs.code_at.Tie as tie

key-at-requires : tie.Need-key_at-requires
key-at-requires c κs = search rules

to-encodings-requires : tie.Need-to_encodings-requires
to-encodings-requires c κs = search rules

returns : tie.Need-returns
returns c =
    let a = c.args in
    c.to_encodings.ensures ∙ ap (λ k. lane_sum k a.bias) c.key_at.ensures

pub code_at_spec : {M : Type 1} → statement M
code_at_spec = tie.close (tie.spec key-at-requires to-encodings-requires returns)

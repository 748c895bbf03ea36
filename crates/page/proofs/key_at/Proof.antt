-- `page::key_at` meets its contract: a record begins with its key. Assumes nothing.
use mathlib.Core.Path.{sym, ◌∙◌}
use Rattle.record.proofs.PackedLaws.{key_in-field}
use Rattle.page.specs.Fields.{record_offset}
use borrow.Author.Rules.{rules}
use Rattle.page.proofs.key_at.Statement.{statement}
use Rattle.page.proofs.key_at.Tie as tie

mul-read-key : tie.Need-overflow_mul-i
mul-read-key c = search rules

add-read-key : tie.Need-overflow_add-i
add-read-key c = search rules

read-key-requires : tie.Need-read_key-requires
read-key-requires c κs = search rules

returns : tie.Need-returns
returns c =
    let a = c.args in
    c.read_key.ensures ∙ sym (key_in-field a.page.now (record_offset a.i))

pub key_at_spec : {M : Type 1} → statement M
key_at_spec = tie.close (tie.spec mul-read-key add-read-key read-key-requires returns)

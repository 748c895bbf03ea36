-- `record::read_content` meets its contract: the payload stands behind the key. Assumes nothing.
use mathlib.Core.Path.{sym, ap, ◌∙◌}
use Rattle.record.proofs.CodecLaws.{content_in-field}
use borrow.Author.Rules.{rules}
use Rattle.record.proofs.read_content.Statement.{statement}
use Rattle.record.proofs.read_content.Tie as tie

add-read32 : tie.Need-overflow_add-at
add-read32 c = search rules

read32-requires : tie.Need-read32-requires
read32-requires c κs = search rules

cast-t5 : tie.Need-overflow_cast-result
cast-t5 c = search rules

returns : tie.Need-returns
returns c =
    let a = c.args in
    ap (λ n. record { payload = n }) c.read32.ensures.0 ∙ sym (content_in-field a.bytes.now a.at)

pub read_content_spec : {M : Type 1} → statement M
read_content_spec = tie.close (tie.spec add-read32 read32-requires cast-t5 returns)

-- `record::numbers::read32` meets its contract: the upper half stands above the lower. Assumes nothing.
use Rattle.record.proofs.NumberLaws.{read-four}
use borrow.Author.Rules.{rules}
use Rattle.record.proofs.numbers.read32.Statement.{statement}
use Rattle.record.proofs.numbers.read32.Tie as tie

read16-requires : tie.Need-read16-requires
read16-requires c κs = search rules

add-read16 : tie.Need-overflow_add-at
add-read16 c = search rules

read16-requires-2 : tie.Need-read16-requires-2
read16-requires-2 c κs = search rules

returns : tie.Need-returns
returns c =
    let low = c.read16 in
    let high = c.read16-2 in
    read-four c.args.bytes.now c.args.at low.result high.result low.ensures.0
    low.ensures.1
    high.ensures.0 high.ensures.1

pub read32_spec : {M : Type 1} → statement M
read32_spec = tie.close (tie.spec read16-requires add-read16 read16-requires-2 returns)

-- `record::numbers::read64` meets its contract: the upper half stands above the lower. Assumes nothing.
use Rattle.record.proofs.NumberLaws.{read-eight}
use borrow.Author.Rules.{rules}
use Rattle.record.proofs.numbers.read64.Statement.{statement}
use Rattle.record.proofs.numbers.read64.Tie as tie

read32-requires : tie.Need-read32-requires
read32-requires c κs = search rules

add-read32 : tie.Need-overflow_add-at
add-read32 c = search rules

read32-requires-2 : tie.Need-read32-requires-2
read32-requires-2 c κs = search rules

returns : tie.Need-returns
returns c =
    let low = c.read32 in
    let high = c.read32-2 in
    read-eight c.args.bytes.now c.args.at low.result high.result low.ensures.0
    low.ensures.1
    high.ensures.0 high.ensures.1

pub read64_spec : {M : Type 1} → statement M
read64_spec = tie.close (tie.spec read32-requires add-read32 read32-requires-2 returns)

-- `record::numbers::read16` meets its contract: the second byte stands above the first. Assumes nothing.
use Rattle.record.proofs.NumberLaws.{read-two}
use borrow.Author.Rules.{rules}
use Rattle.record.proofs.numbers.read16.Statement.{statement}
use Rattle.record.proofs.numbers.read16.Tie as tie

shared-slice-read-wide : tie.Need-bounds-bytes-at
shared-slice-read-wide c = search rules

wide-requires : tie.Need-wide-requires
wide-requires c κs = search rules

add_wide : tie.Need-overflow_add-at
add_wide c = search rules

shared-slice-read-wide-2 : tie.Need-bounds-bytes-at-2
shared-slice-read-wide-2 c = search rules

wide-requires-2 : tie.Need-wide-requires-2
wide-requires-2 c κs = search rules

returns : tie.Need-returns
returns c =
    let low = c.wide in
    let high = c.wide-2 in
    read-two c.args.bytes.now c.args.at low.result high.result low.ensures.0
    low.ensures.1
    high.ensures.0 high.ensures.1

pub read16_spec : {M : Type 1} → statement M
read16_spec =
    tie.close
    (tie.spec
    shared-slice-read-wide
    wide-requires
    add_wide
    shared-slice-read-wide-2
    wide-requires-2
    returns)

-- `record::pack_key` meets its contract: values of 16 bits, shifted side by side. Assumes nothing.
use Rattle.record.proofs.PackedLaws.{or-packed_key}
use borrow.Author.Rules.{rules}
use Rattle.record.proofs.pack_key.Statement.{statement}
use Rattle.record.proofs.pack_key.Tie as tie

array-read-low : tie.Need-bounds-values-0
array-read-low c = search rules

cast-low : tie.Need-overflow_cast-low
cast-low c = search rules

array-read-low-2 : tie.Need-bounds-values-1
array-read-low-2 c = search rules

cast-low-2 : tie.Need-overflow_cast-low-2
cast-low-2 c = search rules

array-read-high : tie.Need-bounds-values-2
array-read-high c = search rules

cast-high : tie.Need-overflow_cast-high
cast-high c = search rules

array-read-high-2 : tie.Need-bounds-values-3
array-read-high-2 c = search rules

cast-high-2 : tie.Need-overflow_cast-high-2
cast-high-2 c = search rules

returns : tie.Need-returns
returns c = or-packed_key c.args.key.values c.requires

pub pack_key_spec : {M : Type 1} → statement M
pack_key_spec =
    tie.close
    (tie.spec
    array-read-low
    cast-low
    array-read-low-2
    cast-low-2
    array-read-high
    cast-high
    array-read-high-2
    cast-high-2
    returns)

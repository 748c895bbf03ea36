-- `file_parts::record_count` meets its contract: the count is a whole file's last number. Assumes nothing.
use mathlib.Core.Path.{ap, ◌∙◌}
use native.Mathlib.Omega.{arith}
use Rattle.file.specs.File.{file_size}
use Rattle.file_parts.proofs.WholeLaws.{long-of-is_whole, length-of-is_whole}
use Rattle.file_parts.proofs.record_count.Statement.{statement}
use Rattle.file_parts.proofs.record_count.Tie as tie

number-before-requires : tie.Need-number_before-requires
number-before-requires c κs =
    let bound = long-of-is_whole c.args.file.now c.requires in
    (omega arith, omega arith)

returns : tie.Need-returns
returns c =
    let file = c.args.file.now in
    let count = c.number_before.ensures.0 in
    (count, ap file_size count ∙ length-of-is_whole file c.requires)

pub record_count_spec : {M : Type 1} → statement M
record_count_spec = tie.close (tie.spec number-before-requires returns)

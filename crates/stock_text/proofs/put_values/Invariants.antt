-- The first j values are written. Assumes nothing.
use Rattle.std.proofs.Common.{◌+◌, ◌*◌, ◌≤◌}
use Rattle.record.specs.Bytes.{record_size, field}
use Rattle.stock_text.specs.Text.{Grown, values_text}
use Rattle.stock_text.proofs.put_values.Given as goal

abbrev pub invariant-loop-j : goal.invariant-loop-j
invariant-loop-j l =
    (l.end ≤ l.at + 6 * l.j) × Grown l.fn.text l.at (values_text l.j (field l.out l.start record_size)) l.text l.end

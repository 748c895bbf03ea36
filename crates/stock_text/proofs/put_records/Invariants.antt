-- The first i records are written. Assumes nothing.
use Rattle.std.proofs.Common.{◌+◌, ◌*◌, ◌≤◌}
use Rattle.stock_text.specs.Text.{Grown, records_text}
use Rattle.stock_text.proofs.put_records.Given as goal

abbrev pub invariant-loop-i : goal.invariant-loop-i
invariant-loop-i l = (l.end ≤ l.at + 35 * l.i) × Grown l.fn.text l.at (records_text l.d l.i l.out) l.text l.end

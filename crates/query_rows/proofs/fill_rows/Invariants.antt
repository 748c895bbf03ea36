-- The steps of the bits so far have their rows. Assumes nothing.
use Rattle.std.proofs.Common.{◌≡◌, ◌*◌, length}
use Rattle.shape.specs.Shape.{width_list}
use Rattle.shape.specs.Key.{wanted_values}
use Rattle.query_rows.specs.Private.{RowsFilled}
use Rattle.query_rows.specs.Rows.{wanted_at}
use Rattle.query_rows.proofs.fill_rows.Given as goal

abbrev pub invariant-loop-bit : goal.invariant-loop-bit
invariant-loop-bit l =
    (length l.rows ≡ length l.initial.rows)
    × RowsFilled (width_list l.widths) (wanted_at (width_list l.widths) (wanted_values l.query)) l.t (4 * l.bit) l.x
    l.rows

-- What the walk of a range needs. Assumes nothing.
use Rattle.std.specs.Prelude.{ℕ, ◌^◌, ◌≤◌, ◌≡◌, true, List, length}
use Rattle.std.proofs.Math.Option.{Option}
use Rattle.shape.specs.Shape.{widths_of}
use Rattle.shape.specs.Range.{Interval}
use Rattle.region.specs.Query.{QueryBit}
use Rattle.store.specs.declared.State.{State}
use Rattle.refusals.specs.Limits.{limits_hold}
use Rattle.query_rows.specs.Rows.{Rows}
use Rattle.range_number.specs.Number.{range_number_by}

-- nothing is refused and the limits hold; the rows are some query's, and the list has room for the pages of all leaves
pub record Tested (st : State) (r : List (Option Interval)) (rows : List ℕ) (words bytes room : ℕ) : Type 0 where
  pub none : range_number_by st words bytes r ≡ 0
  pub can : limits_hold st ≡ true
  pub query : ℕ → QueryBit
  pub table : Rows (widths_of st.shape) query st.deepest rows
  pub rows-lent : 83 ≤ length rows
  pub room-left : 2 ^ st.deepest ≤ room

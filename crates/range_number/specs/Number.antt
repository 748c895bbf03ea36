-- The early refusals of a range by the lengths of the lent slices. Assumes nothing.
use Rattle.std.specs.Prelude.{ℕ, List, ◌++◌}
use Rattle.std.proofs.Math.Option.{Option}
use Rattle.shape.specs.Refusal.{Condition, first_number}
use Rattle.shape.specs.Range.{Interval}
use Rattle.model.specs.Model.{range_conditions}
use Rattle.store.specs.declared.State.{State}
use Rattle.refusals.specs.Lengths.{lent_by}

-- 1, 14, 15, 2, 8, 3, 10 of a state with so many words and bytes lent
abbrev pub range_by : State → ℕ → ℕ → List (Option Interval) → List Condition
range_by st words bytes r = lent_by st words bytes ++ range_conditions st.shape r

unfoldable pub range_number_by : State → ℕ → ℕ → List (Option Interval) → ℕ
range_number_by st words bytes r = first_number (range_by st words bytes r)

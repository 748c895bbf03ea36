-- The early refusals of a query by the lengths of the lent slices. Assumes nothing.
use Rattle.std.specs.Prelude.{ℕ, List, ◌++◌}
use Rattle.std.proofs.Math.Option.{Option}
use Rattle.shape.specs.Refusal.{Condition, first_number}
use Rattle.model.specs.Model.{query_conditions}
use Rattle.store.specs.declared.State.{State}
use Rattle.refusals.specs.Lengths.{lent_by}

-- 1, 14, 15, 2, 8, 3 of a state with so many words and bytes lent
abbrev pub query_by : State → ℕ → ℕ → List (Option ℕ) → List Condition
query_by st words bytes q = lent_by st words bytes ++ query_conditions st.shape q

unfoldable pub query_number_by : State → ℕ → ℕ → List (Option ℕ) → ℕ
query_number_by st words bytes q = first_number (query_by st words bytes q)

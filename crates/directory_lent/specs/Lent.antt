-- The directory of a state in a lent slice (document 01, "Lent memory": only addresses below 2^T are in use). Assumes
-- nothing.
use Rattle.std.specs.Prelude.{ℕ, ◌^◌, ◌≤◌, ◌≡◌}
use Rattle.shape.specs.Shape.{shape_number, widths_of, total}
use Rattle.store.specs.declared.State.{State}

-- the directory of depth T fits the shape, the greatest depth 12, and a slice of so many words
pub record DirectoryLent (st : State) (size : ℕ) : Type 0 where
  pub shape : shape_number st.shape ≡ 0
  pub deep : st.deepest ≤ total (widths_of st.shape)
  pub short : st.deepest ≤ 12
  pub room : 2 ^ st.deepest ≤ size

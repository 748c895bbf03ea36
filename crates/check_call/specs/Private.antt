-- What the call check asks of the lent memory before it walks. Only the code's contracts cite these. Assumes nothing.
use Rattle.std.specs.Prelude.{ℕ, ◌^◌, ◌≤◌, ◌≡◌}
use Rattle.shape.specs.Shape.{total, shape_number, widths_of}
use Rattle.store.specs.Store.{pages_size}
use Rattle.store.specs.declared.State.{State}

-- none of 1, 14, 15 and 2, and within the limits: what the walk over the whole store asks
pub record StoreLent (st : State) (words bytes : ℕ) : Type 0 where
  pub shape : shape_number st.shape ≡ 0
  pub words-lent : 2 ^ st.limits.depth ≤ words
  pub pages-lent : pages_size st ≤ bytes
  pub short : st.limits.depth ≤ 12
  pub bits : st.limits.depth ≤ total (widths_of st.shape)
  pub within : st.deepest ≤ st.limits.depth

-- What a walk asks of a tested state besides its table. Assumes nothing.
use Rattle.std.specs.Prelude.{ℕ, ◌^◌, ◌≤◌, ◌≡◌, true}
use Rattle.shape.specs.Shape.{in_bounds, widths_of, total}
use Rattle.store.specs.declared.State.{State}
use Rattle.store.specs.Store.{pages_size}

-- of a state with so many words and bytes lent
pub record LimitsLent (st : State) (words bytes : ℕ) : Type 0 where
  pub shape : in_bounds st.shape ≡ true
  pub depth-twelve : st.deepest ≤ 12
  pub depth-bits : st.deepest ≤ total (widths_of st.shape)
  pub words-lent : 2 ^ st.deepest ≤ words
  pub most-pages : st.limits.pages ≤ 4096
  pub pages-lent : pages_size st ≤ bytes

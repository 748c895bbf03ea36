-- What the search for a free page is told, and where it starts. Assumes nothing.
use Rattle.std.specs.Prelude.{ℕ, zero, suc, ◌+◌, ◌≤◌, ◌≡◌, List, get_or, length}
use Rattle.shape.specs.Shape.{shape_number}
use Rattle.store.specs.Store.{pages_size}
use Rattle.store.specs.declared.State.{State}

-- shape, page limit and page bytes, as the early refusals and the limits leave them
pub record PagesLent (st : State) (bytes : List ℕ) : Type 0 where
  pub shape : shape_number st.shape ≡ 0
  pub few : st.limits.pages ≤ 4096
  pub lent : pages_size st ≤ length bytes

-- how many leaves a tally has at the depths below x
unfoldable pub leaves_above : List ℕ → ℕ → ℕ
leaves_above leaves zero = 0
leaves_above leaves (suc x) = leaves_above leaves x + get_or leaves x 0

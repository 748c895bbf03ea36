-- The early refusals by the lengths of the lent slices: what the code computes with. Assumes nothing.
use Rattle.std.specs.Prelude.{ℕ, ◌^◌, ◌≤◌, ◌≡◌, Bool, ◌||◌, List, [], ◌∷◌, ◌++◌, ltb}
use Rattle.shape.specs.Refusal.{Condition, refusal, first_number}
use Rattle.shape.specs.Shape.{shape_conditions, shape_number}
use Rattle.model.specs.Model.{key_conditions}
use Rattle.store.specs.Store.{pages_size}
use Rattle.store.specs.declared.State.{State}

-- "fewer than 2^L words or P pages"
abbrev pub lacks_memory : State → ℕ → ℕ → Bool
lacks_memory st words bytes = ltb words (2 ^ st.limits.depth) || ltb bytes (pages_size st)

-- the conditions 1, 14, 15 and 2 of a state with so many words and bytes lent
unfoldable pub lent_by : State → ℕ → ℕ → List Condition
lent_by st words bytes = shape_conditions st.shape ++ refusal 2 (lacks_memory st words bytes) ∷ []

-- where none holds: a shape within its bounds, 2^L words and P pages
pub record MemoryLent (st : State) (words bytes : ℕ) : Type 0 where
  pub shape : shape_number st.shape ≡ 0
  pub words-lent : 2 ^ st.limits.depth ≤ words
  pub pages-lent : pages_size st ≤ bytes

-- 1, 14, 15, 2
unfoldable pub lent_number_by : State → ℕ → ℕ → ℕ
lent_number_by st words bytes = first_number (lent_by st words bytes)

-- 1, 14, 15, 2, 3
unfoldable pub key_number_by : State → ℕ → ℕ → List ℕ → ℕ
key_number_by st words bytes values = first_number (lent_by st words bytes ++ key_conditions st.shape values)

-- What 1, 14, 15, 2 and 3 leave of a store and a key that they let pass. A call hands the key on by its encodings.
-- Assumes nothing.
use Rattle.std.specs.Prelude.{ℕ, ◌^◌, ◌≤◌, ◌≡◌, true, List, length}
use Rattle.shape.specs.Shape.{shape_number, widths_of, index_fits}
use Rattle.shape.specs.Key.{encodings}
use Rattle.store.specs.Store.{Store, pages_size}
use Rattle.store.specs.Promises.{key_number}

-- a shape within its bounds, 2^L words and P pages, and four encodings within the widths
pub record Passed (store : Store) (encoded : List ℕ) : Type 0 where
  pub shape : shape_number store.state.shape ≡ 0
  pub words-lent : 2 ^ store.state.limits.depth ≤ length store.memory.words
  pub pages-lent : pages_size store.state ≤ length store.memory.bytes
  pub four : length encoded ≡ 4
  pub fits : index_fits (widths_of store.state.shape) encoded ≡ true

-- what a step that is given encodings tells of the call's values: it holds of all that 1, 14, 15, 2 and 3 let pass
-- and that have these encodings
abbrev pub OfValues : Store → List ℕ → (List ℕ → Type 0) → Type 0
OfValues store encoded X =
    (values : List ℕ) → key_number store values ≡ 0 → encodings store.state.shape values ≡ encoded → X values

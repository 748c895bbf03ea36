-- The pages that a walk reads of a store that shows a division (document 01, "Calls"). Assumes nothing.
use Rattle.std.specs.Prelude.{ℕ, suc, ◌-◌, Bool, true, false, cond, List, [], ◌∷◌, ◌++◌}
use Rattle.region.specs.Strings.{with_bit, empty_string}
use Rattle.region.specs.Division.{Division, leaf, divided}
use Rattle.region.specs.Query.{LeafTest, holds_records}
use Rattle.record.specs.Record.{Record}
use Rattle.store.specs.declared.State.{State}
use Rattle.store.specs.Store.{word_at}
use Rattle.directory_word.specs.Word.{page_field}

-- the page that the word at a string's cell names
abbrev pub page_in : State → List ℕ → (ℕ → Bool) → ℕ
page_in st words p = page_field (word_at st.shape st.deepest words p) - 1

-- `page p` is the page of the leaf that p leads to
module _ {R : Type 0} (enter : ℕ → (ℕ → Bool) → Bool) (opens : LeafTest R) (page : (ℕ → Bool) → ℕ) where
  -- the pages of the leaves that are entered and opened, in the order of the walk, below the first t bits of p
  abbrev pub walk_pages : (ℕ → Bool) → ℕ → Division R → List ℕ
  walk_pages p t (leaf rs) = cond (opens p t rs) (page p ∷ []) []
  walk_pages p t (divided l u) =
      cond (enter (suc t) (with_bit p t false)) (walk_pages (with_bit p t false) (suc t) l) []
      ++ cond (enter (suc t) (with_bit p t true)) (walk_pages (with_bit p t true) (suc t) u) []

-- of a store's leaves, those that are not empty
unfoldable pub read_pages_by : State → List ℕ → (ℕ → (ℕ → Bool) → Bool) → Division Record → List ℕ
read_pages_by st words enter D = walk_pages enter holds_records (page_in st words) empty_string 0 D

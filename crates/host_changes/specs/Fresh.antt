-- What Fresh promises of a state that lies in lent words (document 01, "Calls", "Refused calls" 1 and 2; document 02,
-- request 7). Assumes nothing.
use Rattle.std.specs.Prelude.{ℕ, ◌≡◌, List, [], ◌∷◌, ◌++◌, ltb, length}
use Rattle.shape.specs.Refusal.{Condition, refusal, first_number, answered_by}
use Rattle.shape.specs.declared.Shape.{Shape}
use Rattle.model.specs.Model.{if_accepted}
use Rattle.store.specs.Fresh.{fresh_refusals, fresh_state, fresh_memory}
use Rattle.store.specs.Store.{Memory}
use Rattle.host_state.specs.Image.{state_size, state_put}
use Rattle.host_results.specs.Result.{Reports}

-- those of Fresh, 1, 14, 15, 2; and 2 for fewer words than a state has
unfoldable pub lent_fresh_refusals : Shape → List ℕ → Memory → List Condition
lent_fresh_refusals s words m = fresh_refusals s m ++ refusal 2 (ltb (length words) state_size) ∷ []

abbrev pub lent_fresh_number : Shape → List ℕ → Memory → ℕ
lent_fresh_number s words m = first_number (lent_fresh_refusals s words m)

-- Fresh gave a number and an attribute, and left words and memory: those of a fresh store, or what came. Shut out: a
-- Fresh that leaves the state unwritten; one that clears the pages before it refuses the state words; the highest bad
-- width, an attribute beside 15
pub record LentFreshPromise (s : Shape) (words : List ℕ) (m : Memory) (number attribute : ℕ) (words' : List ℕ)
    (m' : Memory) : Type 0 where
  pub reported : Reports {A = Unit {0}} number attribute tt tt (answered_by (lent_fresh_refusals s words m) tt)
  pub words-as : words' ≡ if_accepted (lent_fresh_number s words m) (state_put (fresh_state s m) words) words
  pub memory-as : m' ≡ if_accepted (lent_fresh_number s words m) (fresh_memory s m) m

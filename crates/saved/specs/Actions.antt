-- Demand 3 with saves among the calls (document 02, request 5): one statement about a whole list of calls and saves,
-- from a fresh store or from a loaded one. Assumes nothing.
use Rattle.std.specs.Prelude.{ℕ, ◌≡◌, List, [], ◌∷◌, ◌++◌, length, drop}
use Rattle.shape.specs.Refusal.{Answer, accepted, answered}
use Rattle.shape.specs.declared.Shape.{Shape}
use Rattle.record.specs.Record.{Record}
use Rattle.model.specs.Limits.{fixed_by}
use Rattle.model.specs.Model.{Fixed, Call, Outcome, outcome, next, if_accepted}
use Rattle.store.specs.Store.{Store, Memory}
use Rattle.store.specs.Sound.{Sound}
use Rattle.store.specs.Fresh.{FreshPromise}
use Rattle.history.specs.History.{Promised, ReadsBounded}
use Rattle.file.specs.File.{file_size, file_of, file_records}
use Rattle.file.specs.Loading.{load_fixed}
use Rattle.file.specs.Promises.{fit_number, SavePromise, LoadPromise}

-- a call of the plain model, or a save and its output as it came
pub data Action : Type 0 where
  call : Call → Action
  save : List ℕ → Action

-- what it gave: a call's outcome, or a save's answer and its output as it is left
pub data ActionOutcome : Type 0 where
  called : Outcome → ActionOutcome
  saved : Answer ℕ → List ℕ → ActionOutcome

-- ---- the model

-- "Saving writes the file's bytes only, from the output's first byte, returns their number, and gives 2 if they don't
-- fit"
unfoldable pub action_outcome : Fixed → List Record → Action → ActionOutcome
action_outcome f S (call c) = called (outcome f S c)
action_outcome f S (save out) =
    saved (answered (fit_number S out) (file_size (length S)))
    (if_accepted (fit_number S out) (file_of f.shape S ++ drop (file_size (length S)) out) out)

-- the set after it; a save changes none
abbrev pub action_next : Fixed → List Record → Action → List Record
action_next f S (call c) = next f S c
action_next f S (save out) = S

unfoldable pub action_run : Fixed → List Record → List Action → List ActionOutcome
action_run f S [] = []
action_run f S (x ∷ xs) = action_outcome f S x ∷ action_run f (action_next f S x) xs

-- the set after them
abbrev pub action_set : Fixed → List Record → List Action → List Record
action_set f S [] = S
action_set f S (x ∷ xs) = action_set f (action_next f S x) xs

-- ---- runs

-- an action took the store `before` to `after` and gave an outcome, as its promise says; a save writes nothing in the
-- store
abbrev pub ActionPromised : Store → Action → ActionOutcome → Store → Type 0
ActionPromised before (call c) (called o) after = Promised before c o after
ActionPromised before (call c) (saved answer out') after = ⊥
ActionPromised before (save out) (called o) after = ⊥
ActionPromised before (save out) (saved answer out') after = SavePromise before out answer out' × (after ≡ before)

-- actions one after the other, each on the store that the one before left, and the store that the last one left
pub data ActionsRan : Store → List Action → List ActionOutcome → Store → Type 0 where
  no-action : {store : Store} → ActionsRan store [] [] store
  action-more : {before between after : Store} {x : Action} {xs : List Action} {o : ActionOutcome}
      {os : List ActionOutcome} → ActionPromised before x o between → ActionsRan between xs os after
      → ActionsRan before (x ∷ xs) (o ∷ os) after

-- each accepted query's reads are within the bound of demand 3
abbrev pub ActionBounded : Fixed → List Record → Action → ActionOutcome → Type 0
ActionBounded f S (call c) (called o) = ReadsBounded f S c o
ActionBounded f S (call c) (saved answer out') = ⊥
ActionBounded f S (save out) o = Unit {0}

abbrev pub ActionsBounded : Fixed → List Record → List Action → List ActionOutcome → Type 0
ActionsBounded f S [] os = Unit {0}
ActionsBounded f S (x ∷ xs) [] = ⊥
ActionsBounded f S (x ∷ xs) (o ∷ os) = ActionBounded f S x o × ActionsBounded f (action_next f S x) xs os

-- ---- the theorem

-- any list of calls and saves on a store is answered as the model answers it from the set S on, and the store that is
-- left shows the model's set
abbrev pub AsModel : Fixed → List Record → Store → Type 0
AsModel f S store =
    (actions : List Action) (outcomes : List ActionOutcome) (after : Store) → ActionsRan store actions outcomes after
    → (outcomes ≡ action_run f S actions) × ActionsBounded f S actions outcomes × Sound after (action_set f S actions)

-- from a store that Fresh made, and from one that a load made: "a sound store of the file's shape and records .., with
-- P and L set as by Fresh"
pub record SavedHistory : Type 0 where
  pub from-fresh : (s : Shape) (m : Memory) (fresh : Store) → FreshPromise s m (accepted tt) fresh
      → AsModel (fixed_by s (length m.words) (length m.bytes)) [] fresh
  pub from-loaded : (file : List ℕ) (m : Memory) (loaded : Store) → LoadPromise file m (accepted tt) loaded
      → AsModel (load_fixed file m) (file_records file) loaded

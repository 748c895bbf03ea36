-- Demand 3 of the running code: what `replay` leaves, as the plain model says it. Assumes nothing.
use Rattle.std.specs.Prelude.{ℕ, suc, ◌*◌, ◌≡◌, List, [], ◌++◌, length, drop}
use Rattle.shape.specs.Refusal.{Condition, Answer, accepted, first_number, answered_by}
use Rattle.shape.specs.declared.Shape.{Shape}
use Rattle.record.specs.Record.{Record}
use Rattle.model.specs.Limits.{fixed_by}
use Rattle.model.specs.Model.{Fixed, Call, Outcome, run, last_set}
use Rattle.store.specs.Store.{Store, Memory, fixed_of}
use Rattle.store.specs.Sound.{Sound}
use Rattle.store.specs.Fresh.{fresh_refusals, no_state}
use Rattle.history.specs.History.{WithinBounds}
use Rattle.file.specs.File.{file_records}
use Rattle.file.specs.Loading.{load_fixed, load_refusals}
use Rattle.replay_encoding.specs.Encoding.{calls_in, call_count, answer_size, answers_of, outputs_of, output_start}

-- "The plain model is given that Fresh's shape and slice lengths, which set P and L"
abbrev pub model_fixed : Shape → Memory → Fixed
model_fixed s m = fixed_by s (length m.words) (length m.bytes)

-- the calls that are run, by their words, the lent answers and the lent output
abbrev pub model_calls : List ℕ → List ℕ → List ℕ → List Call
model_calls words answers out = calls_in words out (call_count words answers)

-- what the model answers, from a set on
abbrev pub model_run : Fixed → List Record → List ℕ → List ℕ → List ℕ → List Outcome
model_run f S words answers out = run f S (model_calls words answers out)

-- Fresh or a load on lent memory, of which `first` are the conditions for refusal, and then the calls of `words` one
-- after the other, from shape, P, L and the set S on, gave `answer` and left the store `after`, the answers and the
-- outputs.
-- Shut out: a call left out, an answer at another's place, an output begun late (answers-as, outputs-as); a delete that
-- only looks (shown)
pub record ReplayedFrom (first : List Condition) (f : Fixed) (S : List Record) (m : Memory) (words answers out : List ℕ)
    (answer : Answer (Unit {0})) (after : Store) (answers' out' : List ℕ) : Type 0 where
  -- it is refused, and nothing is changed; there is no state to go on with
  pub refused_as : (n : ℕ) → first_number first ≡ suc n
      → (answer ≡ answered_by first tt) × (after ≡ record { state = no_state; memory = m }) × (answers' ≡ answers)
      × (out' ≡ out)
  -- it is accepted, and the calls are answered as the model answers them
  pub accepted-as : first_number first ≡ 0 → answer ≡ accepted tt
  pub fixed-as : first_number first ≡ 0 → fixed_of after.state ≡ f
  pub answers-as : first_number first ≡ 0
      → answers' ≡ answers_of (model_run f S words answers out) ++ drop (answer_size * call_count words answers) answers
  pub outputs-as : first_number first ≡ 0
      → out' ≡ outputs_of (model_run f S words answers out)
      ++ drop (output_start words (length out) (call_count words answers)) out
  -- with reads within the bound, and a store that shows the model's set
  pub bounded : first_number first ≡ 0 → WithinBounds f S (model_calls words answers out) (model_run f S words answers out)
  pub shown : first_number first ≡ 0 → Sound after (last_set f S (model_calls words answers out))

-- from a fresh store: no record
abbrev pub Replayed : Shape → Memory → List ℕ → List ℕ → List ℕ → Answer (Unit {0}) → Store → List ℕ → List ℕ
    → Type 0
Replayed s m words answers out answer after answers' out' =
    ReplayedFrom (fresh_refusals s m) (model_fixed s m) [] m words answers out answer after answers' out'

-- from a loaded store: the file's records
abbrev pub ReplayedFile : List ℕ → Memory → List ℕ → List ℕ → List ℕ → Answer (Unit {0}) → Store → List ℕ → List ℕ
    → Type 0
ReplayedFile file m words answers out answer after answers' out' =
    ReplayedFrom (load_refusals file m) (load_fixed file m) (file_records file) m words answers out answer after answers'
    out'

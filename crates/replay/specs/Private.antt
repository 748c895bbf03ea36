-- What the calls so far of a replay promise. Only the code's contracts cite it. Assumes nothing.
use Rattle.std.specs.Prelude.{ℕ, ◌*◌, ◌≡◌, List, ◌++◌, length, drop}
use Rattle.model.specs.Model.{Outcome}
use Rattle.store.specs.Store.{Store}
use Rattle.history.specs.History.{Run}
use Rattle.replay_encoding.specs.Encoding.{calls_in, answer_size, answers_of, outputs_of, output_start}

-- the first k calls kept their promises, each on the store that the one before left; their answers and outputs stand
-- first
pub record CallsRan (before : Store) (words answers out : List ℕ) (k : ℕ) (after : Store)
    (answers' out' : List ℕ) : Type 0 where
  pub outcomes : List Outcome
  pub ran : Run before (calls_in words out k) outcomes after
  pub answers-length : length (answers_of outcomes) ≡ answer_size * k
  pub outputs-length : length (outputs_of outcomes) ≡ output_start words (length out) k
  pub answers-as : answers' ≡ answers_of outcomes ++ drop (answer_size * k) answers
  pub outputs-as : out' ≡ outputs_of outcomes ++ drop (output_start words (length out) k) out

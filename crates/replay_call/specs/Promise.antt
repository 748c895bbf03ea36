-- What one encoded call promises. Only the code's contracts cite it. Assumes nothing.
use Rattle.std.specs.Prelude.{ℕ, ◌≡◌, List}
use Rattle.model.specs.Model.{Call, Outcome}
use Rattle.store.specs.Store.{Store}
use Rattle.history.specs.History.{Promised}
use Rattle.replay_encoding.specs.Encoding.{answer_words}

-- a call kept its promise, with the outcome that these words and this output give
pub record CallKept (before : Store) (c : Call) (words output : List ℕ) (after : Store) : Type 0 where
  pub outcome : Outcome
  pub promised : Promised before c outcome after
  pub words-as : words ≡ answer_words outcome.answer
  pub output-as : output ≡ outcome.output

-- Addresses by the step that appended them. Assumes nothing.
use Rattle.std.specs.Prelude.{ℕ, ◌+◌, ◌^◌, ◌≤◌, ◌<◌, List}
use Rattle.shape.specs.Shape.{Fit}
use Rattle.pairs.specs.Pairs.{StepPair}

-- "step t appends 2^t addresses": the address a is one of step t, the pair at place g
pub record AppendedBy (ws : List ℕ) (a t g : ℕ) : Type 0 where
  pub fit : Fit ws
  pub from : 2 ^ t ≤ a
  pub past : a < 2 ^ (t + 1)
  pub pair : StepPair ws t g

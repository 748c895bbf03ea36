-- The sibling of a key's region in the directory: the region whose last split bit is the other one. Assumes nothing.
use Rattle.std.specs.Prelude.{ℕ, suc, ◌≤◌, ◌<◌, ◌≡◌, Bool, List, get_or, length}
use Rattle.shape.specs.Shape.{Fit, total}
use Rattle.split.specs.Steps.{steps_below}
use Rattle.split.specs.Bits.{split_bit}
use Rattle.pairs.specs.Pairs.{StepPair}
use Rattle.cell.specs.Cell.{cell_address, Agree}
use Rattle.region.specs.Strings.{sibling}

-- the pair at place g is a split step, below the directory's depth t
pub record StepWithin (ws : List ℕ) (g t : ℕ) : Type 0 where
  pub fit : Fit ws
  pub deep : t ≤ total ws
  pub step : StepPair ws (length (steps_below ws g)) g
  pub below : length (steps_below ws g) < t

-- the address of the cell of the sibling's z + 1 bits
abbrev pub sibling_address : List ℕ → List ℕ → ℕ → ℕ
sibling_address ws key z = cell_address ws (suc z) (sibling (split_bit ws key) z)

-- a word is that of a cell of the sibling of a key's region of z + 1 bits
abbrev pub SiblingWord : List ℕ → List ℕ → ℕ → ℕ → List ℕ → ℕ → Type 0
SiblingWord ws key z t words word =
    (q : ℕ → Bool) × Agree (suc z) (sibling (split_bit ws key) z) q × (word ≡ get_or words (cell_address ws t q) 0)

-- Index vectors of the widths' whole box, and their addresses. Assumes nothing.
use Rattle.std.specs.Prelude.{ℕ, ◌^◌, ◌<◌, ◌≡◌, List, get_or}
use Rattle.shape.specs.Shape.{Fit}
use Rattle.address.specs.Address.{address}

-- an index vector of the widths' whole box
pub record InBox (ws is : List ℕ) : Type 0 where
  pub fit : Fit ws
  pub below : (r : ℕ) → r < 4 → get_or is r 0 < 2 ^ get_or ws r 0

-- the vector at address a
pub record IndexAt (ws : List ℕ) (a : ℕ) (is : List ℕ) : Type 0 where
  pub below : (r : ℕ) → r < 4 → get_or is r 0 < 2 ^ get_or ws r 0
  pub back : address ws is ≡ a

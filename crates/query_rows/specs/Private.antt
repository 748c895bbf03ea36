-- What the functions that fill the rows go by: the rows filled so far, and what a query gives for an attribute. Assumes
-- nothing.
use Rattle.std.specs.Prelude.{ℕ, ◌+◌, ◌*◌, ◌/◌, ◌%◌, ◌≤◌, ◌<◌, ◌≡◌, List, get_or, length}
use Rattle.shape.specs.Shape.{Fit}
use Rattle.split.specs.Steps.{steps_below}
use Rattle.region.specs.Query.{QueryBit}
use Rattle.page_ends.specs.Ends.{fixed_bits}
use Rattle.query_rows.specs.Rows.{step_row, fixed_in}

-- x steps have their rows: those before place g, or all t
pub record RowsFilled (ws : List ℕ) (q : ℕ → QueryBit) (t g x : ℕ) (rows : List ℕ) : Type 0 where
  pub counted : x < t → x ≡ length (steps_below ws g)
  pub short : x ≤ t
  pub low : g ≤ 64
  pub row : (y i : ℕ) → y < x → i < 5 → get_or rows (y * 6 + i) 0 ≡ get_or (step_row ws q y) i 0
  pub fixed : (y : ℕ) → y ≤ x → fixed_in rows y ≡ fixed_bits ws y

-- what the rows of a bit's steps ask: x steps come before
pub record BitAsked (ws : List ℕ) (q : ℕ → QueryBit) (t bit x : ℕ) (rows : List ℕ) : Type 0 where
  pub fit : Fit ws
  pub deep : t ≤ 12
  pub low : bit < 16
  pub table-lent : 83 ≤ length rows
  pub filled : RowsFilled ws q t (4 * bit) x rows

-- the pair at place g is a step, one of the first 12
pub record StepAt (ws : List ℕ) (g : ℕ) : Type 0 where
  pub fit : Fit ws
  pub low : g < 64
  pub live : g / 4 < get_or ws (g % 4) 0
  pub deep : length (steps_below ws g) < 12

-- place g and an attribute j of w bits
pub record PlaceAsked (w g j : ℕ) : Type 0 where
  pub low : g < 64
  pub attribute : j < 4
  pub width : w ≤ 16

-- bit k of an attribute j of w bits
pub record BitOf (w k j : ℕ) : Type 0 where
  pub attribute : j < 4
  pub bit : k < w
  pub width : w ≤ 16

-- Demand 2's first sentence: the directory's addresses equal those of the doubling array, both ways, at every size.
-- Assumes nothing.
use Rattle.std.specs.Prelude.{ℕ, ◌^◌, ◌≤◌, ◌<◌, ◌≡◌, List, [], get_or, length}
use Rattle.shape.specs.Shape.{total}
use Rattle.address.specs.Address.{address}
use Rattle.address.specs.Doubling.{In, sides, doubling_array}

-- "This must equal the doubling array": what holds of the widths of every shape within its bounds
pub record EqualsDoublingArray (ws : List ℕ) : Type 0 where
  -- "size 1 ..; step t appends 2^t addresses"
  pub size : (t : ℕ) → t ≤ total ws → length (doubling_array ws t) ≡ 2 ^ t
  -- "At each T the box of all i_j < 2^h_j maps .. onto 0 to 2^T − 1": the formula's address of a vector is its place
  pub in-range : (t : ℕ) → t ≤ total ws → (is : List ℕ) → In (sides ws t) is → address ws is < 2 ^ t
  pub place : (t : ℕ) → t ≤ total ws → (is : List ℕ) → In (sides ws t) is
      → get_or (doubling_array ws t) (address ws is) [] ≡ is
  -- "one to one"
  pub one-to-one : (t : ℕ) → t ≤ total ws → (is js : List ℕ) → In (sides ws t) is → In (sides ws t) js
      → address ws is ≡ address ws js → is ≡ js
  -- "onto", and the inverse: what stands at an address is of the box, and has that address
  pub onto : (t : ℕ) → t ≤ total ws → (a : ℕ) → a < 2 ^ t → In (sides ws t) (get_or (doubling_array ws t) a [])
  pub inverse : (t : ℕ) → t ≤ total ws → (a : ℕ) → a < 2 ^ t → address ws (get_or (doubling_array ws t) a []) ≡ a
  -- "no earlier address moves"
  pub stays : (t u : ℕ) → t ≤ u → u ≤ total ws → (a : ℕ) → a < 2 ^ t
      → get_or (doubling_array ws u) a [] ≡ get_or (doubling_array ws t) a []

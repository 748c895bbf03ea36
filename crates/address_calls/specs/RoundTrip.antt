-- What the two calls of the address map accept, and that each undoes the other (document 01, "Address map", "Refused
-- calls" 3). Assumes nothing.
use Rattle.std.specs.Prelude.{ℕ, ◌^◌, ◌<◌, ◌≡◌, true, List, map, ◌↔◌, length}
use Rattle.shape.specs.Refusal.{accepted}
use Rattle.shape.specs.Shape.{widths_of, total, index_fits}
use Rattle.shape.specs.declared.Shape.{Shape}
use Rattle.address.specs.Doubling.{In, sides}
use Rattle.address_calls.specs.Answers.{address_number, address_answer, index_number, index_answer}

-- "the box of all i_j < 2^h_j" at T = W: the vectors that `EqualsDoublingArray` speaks of there
abbrev pub InWholeBox : Shape → List ℕ → Type 0
InWholeBox s is = In (sides (widths_of s) (total (widths_of s))) is

-- what holds of every shape within its bounds
pub record RoundTrip (s : Shape) : Type 0 where
  -- at T = W each h_j is w_j ..
  pub whole-box : sides (widths_of s) (total (widths_of s)) ≡ map (λ w. 2 ^ w) (widths_of s)
  -- .. so that the vectors of the box are those that fit, and the call accepts these and no other
  pub fits : (is : List ℕ) → length is ≡ 4 → (index_fits (widths_of s) is ≡ true) ↔ InWholeBox s is
  pub index-accepted : (is : List ℕ) → length is ≡ 4 → (address_number s is ≡ 0) ↔ InWholeBox s is
  -- the inverse call accepts "0 to 2^T − 1" there, and no other address
  pub address-accepted : (a : ℕ) → (index_number s a ≡ 0) ↔ (a < 2 ^ total (widths_of s))
  -- "one to one onto": a vector of the box has an address, and there the inverse call finds that vector ..
  pub to-address : (is : List ℕ) → InWholeBox s is
      → (a : ℕ) × (a < 2 ^ total (widths_of s)) × (address_answer s is ≡ accepted a) × (index_answer s a ≡ accepted is)
  -- .. and at each address stands a vector of the box, whose address it is
  pub to-index : (a : ℕ) → a < 2 ^ total (widths_of s)
      → (is : List ℕ) × InWholeBox s is × (index_answer s a ≡ accepted is) × (address_answer s is ≡ accepted a)
  -- so that an answer of one call is the question of the other
  pub undoes : (is : List ℕ) (a : ℕ) → length is ≡ 4
      → (address_answer s is ≡ accepted a) ↔ (index_answer s a ≡ accepted is)

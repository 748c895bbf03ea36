-- What holds of cells, for the widths of every shape within its bounds. Assumes nothing.
use Rattle.std.specs.Prelude.{ℕ, ◌^◌, ◌≤◌, ◌<◌, ◌≡◌, Bool, false, List, ◌↔◌, get_or}
use Rattle.shape.specs.Shape.{total}
use Rattle.split.specs.Steps.{step_number}
use Rattle.split.specs.Bits.{bit_of, split_bit}
use Rattle.address.specs.Doubling.{In, sides}
use Rattle.cell.specs.Cell.{cell, cell_address, Agree}

pub record CellLaws (ws : List ℕ) : Type 0 where
  -- t bits name a vector of the box at t ..
  pub in-box : (t : ℕ) → t ≤ total ws → (p : ℕ → Bool) → In (sides ws t) (cell ws t p)
  -- .. each vector of the box is named ..
  pub onto : (t : ℕ) → t ≤ total ws → (v : List ℕ) → In (sides ws t) v → (p : ℕ → Bool) × (cell ws t p ≡ v)
  -- .. and by one string of t bits: two keys have the same cell exactly if their first t split bits agree
  pub same : (t : ℕ) → t ≤ total ws → (p q : ℕ → Bool) → (cell ws t p ≡ cell ws t q) ↔ Agree t p q
  -- the same for the addresses 0 to 2^t − 1
  pub address-lt : (t : ℕ) → t ≤ total ws → (p : ℕ → Bool) → cell_address ws t p < 2 ^ t
  pub address-onto : (t : ℕ) → t ≤ total ws → (a : ℕ) → a < 2 ^ t → (p : ℕ → Bool) × (cell_address ws t p ≡ a)
  pub address_same : (t : ℕ) → t ≤ total ws → (p q : ℕ → Bool) → (cell_address ws t p ≡ cell_address ws t q) ↔ Agree t p q
  -- further bits 0 change no address: that of a region does not depend on the directory's depth
  pub zero_bits : (t u : ℕ) → t ≤ u → u ≤ total ws → (p : ℕ → Bool) → ((s : ℕ) → t ≤ s → s < u → p s ≡ false)
      → cell_address ws u p ≡ cell_address ws t p
  -- a key's bits in a cell are the bits of its encodings
  pub key-bits : (key : List ℕ) (k j : ℕ) → j < 4 → k < get_or ws j 0
      → split_bit ws key (step_number ws k j) ≡ bit_of (get_or ws j 0) (get_or key j 0) k

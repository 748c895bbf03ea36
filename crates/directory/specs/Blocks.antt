-- Regions as blocks of words: halves of cells, the cells of a region, words that are set by a mask. Assumes nothing.
use Rattle.std.specs.Prelude.{ℕ, suc, ◌+◌, ◌-◌, ◌≤◌, ◌<◌, ◌≡◌, Bool, List, get_or, length}
use Rattle.std.specs.Int.Bits.{bit_and}
use Rattle.address.specs.Address.{address}
use Rattle.address_formula.specs.LatestPair.{latest_pair}
use Rattle.address.specs.Vectors.{InBox}
use Rattle.cell.specs.Cell.{cell, cell_address}
use Rattle.directory.specs.Directory.{DirectoryFits, Filled}
use Rattle.pairs.specs.Pairs.{StepsBefore}

-- ---- cells

-- the half with bit 1 of the cell at address w is at address a
abbrev pub UpperHalf : List ℕ → ℕ → ℕ → ℕ → Type 0
UpperHalf ws t a w = (p : ℕ → Bool) × (cell_address ws (suc t) p ≡ a) × (cell_address ws t p ≡ w)

-- ---- regions

-- a region of x bits at the index vector is, with x steps before place g, in a directory of depth t
pub record RegionAt (ws is : List ℕ) (g x t size : ℕ) : Type 0 where
  pub string : (p : ℕ → Bool) × (cell ws x p ≡ is)
  pub place : StepsBefore ws x g
  pub within : x ≤ t
  pub fits : DirectoryFits ws t size

-- if the region's own cell had the word, then now every cell of the region has it
abbrev pub BlocksFilled : List ℕ → List ℕ → ℕ → ℕ → ℕ → List ℕ → List ℕ → Type 0
BlocksFilled ws is x t word before after =
    (p : ℕ → Bool) → cell ws x p ≡ is → Filled ws x x p word before before → Filled ws t x p word before after

-- the first and the last vector of a block have addresses of a directory in a slice of so many words; the latest pair
-- of both is at place g
pub record BlockFits (ws : List ℕ) (g : ℕ) (first last : List ℕ) (size : ℕ) : Type 0 where
  pub low : g < 64
  pub first-in : InBox ws first
  pub last-in : InBox ws last
  pub first-latest : latest_pair first ≡ g + 1
  pub last-latest : latest_pair last ≡ g + 1
  pub order : address ws first ≤ address ws last
  pub room : address ws last < size
  pub short : address ws last < 4096

-- the bits of v are among those of m
abbrev pub Among : ℕ → ℕ → Type 0
Among v m = bit_and v m ≡ v

-- the words at base + v were set for every v whose bits are among those of the mask, and no other
pub record MaskFilled (base mask word : ℕ) (before after : List ℕ) : Type 0 where
  pub inside : (v : ℕ) → Among v mask → get_or after (base + v) 0 ≡ word
  pub outside : (a : ℕ) → ((v : ℕ) → Among v mask → a ≡ base + v → ⊥) → get_or after a 0 ≡ get_or before a 0
  pub size : length after ≡ length before

-- the block from the first vector to the last was set: the mask is what lies between their addresses
abbrev pub BlockFilled : List ℕ → List ℕ → List ℕ → ℕ → List ℕ → List ℕ → Type 0
BlockFilled ws first last word before after =
    MaskFilled (address ws first) (address ws last - address ws first) word before after

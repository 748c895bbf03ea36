-- Definitions that only private functions' contracts cite: what is told of the parts of a region, and of one step of
-- halving. Assumes nothing.
use Rattle.std.specs.Prelude.{ℕ, suc, ◌+◌, ◌-◌, ◌≡◌, Bool, true, false, List, get_or}
use Rattle.address.specs.Address.{address}
use Rattle.cell.specs.Cell.{cell, cell_address}
use Rattle.directory.specs.Blocks.{Among}
use Rattle.directory_tests.specs.Intact.{cell_word, RegionTold}

-- ---- regions

-- whether the words at base + v are this one for every v whose bits are among those of the mask
pub record MaskTold (base mask word : ℕ) (words : List ℕ) (held : Bool) : Type 0 where
  pub yes : held ≡ true → (v : ℕ) → Among v mask → get_or words (base + v) 0 ≡ word
  pub no : held ≡ false → (v : ℕ) × Among v mask × (get_or words (base + v) 0 ≡ word → ⊥)

-- the mask is what lies between the addresses of a block's first and last vector
abbrev pub BlockTold : List ℕ → List ℕ → List ℕ → ℕ → List ℕ → Bool → Type 0
BlockTold ws first last word words held =
    MaskTold (address ws first) (address ws last - address ws first) word words held

-- the region of x bits at the index vector
abbrev pub CellsTold : List ℕ → List ℕ → ℕ → ℕ → ℕ → List ℕ → Bool → Type 0
CellsTold ws is x t word words held = (p : ℕ → Bool) → cell ws x p ≡ is → RegionTold ws t x p word words held

-- if its own cell has the word
abbrev pub BlocksTold : List ℕ → List ℕ → ℕ → ℕ → ℕ → List ℕ → Bool → Type 0
BlocksTold ws is x t word words held =
    (p : ℕ → Bool) → cell ws x p ≡ is → cell_word ws x words p ≡ word → RegionTold ws t x p word words held

-- ---- one step of halving

-- whether the words at a and at `whole` are one, where `whole` is not left out
pub record PairTold (a whole own : ℕ) (words : List ℕ) (held : Bool) : Type 0 where
  pub yes : held ≡ true → (whole ≡ own → ⊥) → get_or words a 0 ≡ get_or words whole 0
  pub no : held ≡ false → (whole ≡ own → ⊥) × (get_or words a 0 ≡ get_or words whole 0 → ⊥)

-- whether each cell of s + 1 bits has the word of the cell of its first s, which is not at `own`
pub record StepTold (ws : List ℕ) (s own : ℕ) (words : List ℕ) (held : Bool) : Type 0 where
  pub yes : held ≡ true → (q : ℕ → Bool) → (cell_address ws s q ≡ own → ⊥)
      → cell_word ws (suc s) words q ≡ cell_word ws s words q
  pub no : held ≡ false
      → (q : ℕ → Bool) × (cell_address ws s q ≡ own → ⊥) × (cell_word ws (suc s) words q ≡ cell_word ws s words q → ⊥)

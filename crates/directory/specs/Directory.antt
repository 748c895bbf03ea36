-- The steps on the directory's words (document 01, "Lent memory"), over strings of split bits: the word of a cell is
-- that at the address of its string. Assumes nothing.
use Rattle.std.specs.Prelude.{ℕ, suc, ◌^◌, ◌≤◌, ◌<◌, ◌≡◌, Bool, List, get_or, length}
use Rattle.shape.specs.Shape.{Fit, total}
use Rattle.cell.specs.Cell.{cell_address, Agree}

-- a directory of depth t fits the widths, the greatest depth 12, and a slice of so many words
pub record DirectoryFits (ws : List ℕ) (t size : ℕ) : Type 0 where
  pub fit : Fit ws
  pub deep : t ≤ total ws
  pub short : t ≤ 12
  pub room : 2 ^ t ≤ size

-- "step t appends 2^t addresses": the directory doubled from depth t to t + 1
pub record Doubled (ws : List ℕ) (t : ℕ) (before after : List ℕ) : Type 0 where
  -- each cell of t + 1 bits has the word of the cell of its first t. Shut out: a copy from a − 2^t
  pub cells : (p : ℕ → Bool) → get_or after (cell_address ws (suc t) p) 0 ≡ get_or before (cell_address ws t p) 0
  -- "no earlier address moves"
  pub stays : (a : ℕ) → a < 2 ^ t → get_or after a 0 ≡ get_or before a 0
  -- "Words past the first 2^L .. are never changed"
  pub past : (a : ℕ) → 2 ^ suc t ≤ a → get_or after a 0 ≡ get_or before a 0
  pub size : length after ≡ length before

-- "Every cell whose split bits begin with a leaf holds that leaf's word": the region of the first x bits of p was set
-- to a word, in a directory of depth t
pub record Filled (ws : List ℕ) (t x : ℕ) (p : ℕ → Bool) (word : ℕ) (before after : List ℕ) : Type 0 where
  -- Shut out: a fill one cell short
  pub inside : (q : ℕ → Bool) → Agree x p q → get_or after (cell_address ws t q) 0 ≡ word
  -- Shut out: a fill of a shorter string's region
  pub outside : (q : ℕ → Bool) → (Agree x p q → ⊥)
      → get_or after (cell_address ws t q) 0 ≡ get_or before (cell_address ws t q) 0
  -- "Words past the first 2^L .. are never changed"
  pub past : (a : ℕ) → 2 ^ t ≤ a → get_or after a 0 ≡ get_or before a 0
  pub size : length after ≡ length before

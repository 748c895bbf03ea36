-- Definitions that only private functions' contracts cite: words and tally of a leaf that is divided. Assumes nothing.
use Rattle.std.specs.Prelude.{ℕ, zero, suc, ◌+◌, ◌-◌, ◌^◌, ◌≤◌, ◌<◌, ◌≡◌, Bool, cond, List, get_or, length, set}
use Rattle.cell.specs.Cell.{cell_address, Agree}
use Rattle.directory_word.specs.Word.{word_of}
use Rattle.directory_word.specs.declared.Leaf.TheVariants.{Empty, Page}

-- ---- words

-- the directory was doubled from depth t to depth u: each cell of u bits has the word of the cell of its first t
pub record Deepened (ws : List ℕ) (t u : ℕ) (before after : List ℕ) : Type 0 where
  pub cells : (p : ℕ → Bool) → get_or after (cell_address ws u p) 0 ≡ get_or before (cell_address ws t p) 0
  pub past : (a : ℕ) → 2 ^ u ≤ a → get_or after a 0 ≡ get_or before a 0
  pub size : length after ≡ length before

-- q leaves p in bit z: it has p's bits before it, and not this one. The first z + 1 bits of q are the sibling of p's
pub record Leaves (p q : ℕ → Bool) (z : ℕ) : Type 0 where
  pub agree : Agree z p q
  pub differ : p z ≡ q z → ⊥

-- in a directory of depth t, the siblings of p's regions of depths x + 1 to m were set to empty leaves
pub record SiblingsSet (ws : List ℕ) (t x m : ℕ) (p : ℕ → Bool) (before after : List ℕ) : Type 0 where
  pub sibling : (q : ℕ → Bool) (z : ℕ) → x ≤ z → z < m → Leaves p q z
      → get_or after (cell_address ws t q) 0 ≡ word_of (Empty (suc z))
  pub outside : (q : ℕ → Bool) → (Agree x p q → ⊥)
      → get_or after (cell_address ws t q) 0 ≡ get_or before (cell_address ws t q) 0
  pub past : (a : ℕ) → 2 ^ t ≤ a → get_or after a 0 ≡ get_or before a 0
  pub size : length after ≡ length before

-- and the halves of the region of p's first m bits to leaves with pages: g for bit 0, h for bit 1
pub record LeavesSet (ws : List ℕ) (t x m : ℕ) (p : ℕ → Bool) (g h : ℕ) (before after : List ℕ) : Type 0 where
  pub siblings : SiblingsSet ws t x m p before after
  pub half : (q : ℕ → Bool) → Agree m p q → get_or after (cell_address ws t q) 0 ≡ word_of (Page (cond (q m) h g) (suc m))

-- ---- the tally

-- a leaf of depth x gives way to two of depth x + 1
unfoldable pub divided_once : ℕ → List ℕ → List ℕ
divided_once x leaves =
    let less = set leaves x (get_or leaves x 0 - 1) in
    set less (x + 1) (get_or less (x + 1) 0 + 2)

-- so n times, one below the other: one leaf less at depth x, one more at each of x + 1 to x + n - 1, two more at x + n
unfoldable pub divided_tally : ℕ → ℕ → List ℕ → List ℕ
divided_tally x zero leaves = leaves
divided_tally x (suc n) leaves = divided_tally (suc x) n (divided_once x leaves)

-- Laws of the sibling's cell: its index vector, by the string's bit; its address in a deeper directory, where bits 0
-- follow. Assumes nothing.
use Prim.Native.Nat.{ℕ, suc, ◌≤◌}
use mathlib.Core.Path.{◌≡◌, ap, ◌∙◌}
use mathlib.Core.Bool.{Bool, true, false, not}
use mathlib.Core.List.{List}
use native.Mathlib.Omega.{arith}
use lib.ListN.{length}
use Rattle.shape.specs.Shape.{Fit}
use Rattle.split.specs.Steps.{steps}
use Rattle.pairs.specs.Pairs.{StepPair}
use Rattle.cell.specs.Cell.{cell, cell_address}
use Rattle.cell.proofs.CellLaws.{cell-zero-bit, cell_agree, cell_address-same, cell_address-zero-bits}
use Rattle.address_bits.specs.Bits.{bit_set}
use Rattle.cell.proofs.AgreeLaws.{cut, agree-cut, cut-past, agree-with_bit}
use Rattle.region.proofs.StringLaws.{with_bit-same}
use Rattle.directory.proofs.CellLaws.{cell-bit_set}
use Rattle.pairs.proofs.PlaceLaws.{step_pair-lt}
use Rattle.region.specs.Strings.{sibling}

-- ---- index vectors

module _ (ws : List ℕ) (fit : Fit ws) (z g : ℕ) (pair : StepPair ws z g) (p : ℕ → Bool) where
  bit-sibling : (β : Bool) → p z ≡ β → sibling p z z ≡ not β
  bit-sibling β e = with_bit-same p z (not (p z)) ∙ ap not e

  -- both halves are of one region of z bits
  cell-sibling : cell ws z (sibling p z) ≡ cell ws z p
  cell-sibling = cell_agree ws fit z (sibling p z) p (agree-with_bit p z (not (p z)))

  pub cell-sibling-zero : p z ≡ true → cell ws (suc z) (sibling p z) ≡ cell ws z p
  cell-sibling-zero e =
      cell-zero-bit ws fit z (step_pair-lt ws z g pair fit) (sibling p z) (bit-sibling true e) ∙ cell-sibling

  pub cell-sibling-one : p z ≡ false → cell ws (suc z) (sibling p z) ≡ bit_set g (cell ws z p)
  cell-sibling-one e = cell-bit_set ws fit z g pair (sibling p z) (bit-sibling false e) ∙ ap (bit_set g) cell-sibling

-- ---- addresses

-- the cell of the string's first x bits and zeros
pub cell_address-cut-deeper : (ws : List ℕ) → Fit ws → (x t : ℕ) → x ≤ t → t ≤ length (steps ws) → (p : ℕ → Bool)
    → cell_address ws t (cut x p) ≡ cell_address ws x p
cell_address-cut-deeper ws fit x t h deep p =
    cell_address-zero-bits ws fit x t h deep (cut x p) (λ s l u. cut-past x p s l)
    ∙ (cell_address-same ws fit x (omega arith) (cut x p) p).1 (agree-cut x p)

-- Laws of cells one step apart, by the place of the step: the half with bit 1 has the step's bit set. Assumes nothing.
use Prim.Native.Nat.{ℕ, suc, ◌+◌, ◌*◌, ◌/◌, ◌%◌, ◌^◌, ◌<◌}
use mathlib.Core.Path.{◌≡◌, ap, ◌∙◌, subst}
use mathlib.Core.Bool.{Bool, true}
use mathlib.Core.List.{List}
use native.Mathlib.Omega.{arith}
use lib.ListN.{get_or, set}
use Rattle.shape.specs.Shape.{Fit}
use Rattle.split.specs.Steps.{bit_value}
use Rattle.split.proofs.DepthLaws.{attribute_depth-z}
use Rattle.pairs.specs.Pairs.{StepPair}
use Rattle.pairs.proofs.PlaceLaws.{step_number-pair}
use Rattle.address.proofs.SideLaws.{In-sides-get}
use Rattle.address_bits.specs.Bits.{bit_set}
use Rattle.region.specs.Strings.{with_bit}
use Rattle.region.proofs.StringLaws.{with_bit-same}
use Rattle.cell.specs.Cell.{cell}
use Rattle.cell.proofs.AgreeLaws.{agree-with_bit}
use Rattle.cell.proofs.CellLaws.{In-cell, cell_agree, cell-suc-pair}

module _ (ws : List ℕ) (fit : Fit ws) where
  -- the half with bit 1 has the step's bit set
  pub cell-bit_set : (t g : ℕ) → StepPair ws t g → (p : ℕ → Bool) → p t ≡ true
      → cell ws (suc t) p ≡ bit_set g (cell ws t p)
  cell-bit_set t g s p e =
      let k = g / 4 in
      let z = g % 4 in
      let x = get_or (cell ws t p) z 0 in
      let one : x + bit_value (p t) * 2 ^ k ≡ x + 2 ^ k = rw e (omega arith) in
      cell-suc-pair ws fit t p k z (omega arith) s.live (step_number-pair ws t g s)
      ∙ ap (set (cell ws t p) z) one

module _ (ws : List ℕ) (fit : Fit ws) (y g : ℕ) (pair : StepPair ws y g) where
  -- the half with bit 1
  pub cell-upper : (p : ℕ → Bool) → cell ws (suc y) (with_bit p y true) ≡ bit_set g (cell ws y p)
  cell-upper p =
      cell-bit_set ws fit y g pair (with_bit p y true) (with_bit-same p y true)
      ∙ ap (bit_set g) (cell_agree ws fit y (with_bit p y true) p (agree-with_bit p y true))

  -- the step's bit is above those that the index has
  pub get_d-cell-lt : (p : ℕ → Bool) → get_or (cell ws y p) (g % 4) 0 < 2 ^ (g / 4)
  get_d-cell-lt p =
      subst (λ h. get_or (cell ws y p) (g % 4) 0 < 2 ^ h)
      (attribute_depth-z ws fit (g / 4) (g % 4) (omega arith) pair.live (step_number-pair ws y g pair))
      (In-sides-get ws y (In-cell ws y p) (g % 4) (omega arith))

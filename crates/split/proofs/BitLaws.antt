-- Laws of split bits: a key's bit at a step is that bit of its encoding. Assumes nothing.
use Prim.Native.Nat.{ℕ, ◌<◌}
use mathlib.Core.Path.{◌≡◌, ap}
use mathlib.Core.List.{List}
use lib.ListN.{get_or}
use Rattle.shape.specs.Shape.{Fit}
use Rattle.split.specs.Steps.{step_number}
use Rattle.split.specs.Bits.{bit_of, split_bit}
use Rattle.split.proofs.StepLaws.{step-step_number}

pub split_bit-step_number : (ws : List ℕ) → Fit ws → (key : List ℕ) (k j : ℕ) → j < 4 → k < get_or ws j 0
    → split_bit ws key (step_number ws k j) ≡ bit_of (get_or ws j 0) (get_or key j 0) k
unfolding split_bit
split_bit-step_number ws fit key k j hj hk =
    ap (λ s. bit_of (get_or ws s.attribute 0) (get_or key s.attribute 0) s.bit)
    (step-step_number ws k j hj hk (fit j))

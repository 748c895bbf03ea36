-- Laws of the bits of a packed key that are fixed at a depth: one step more adds the bit that the step sets. Assumes
-- nothing.
use Prim.Native.Nat.{ℕ, zero, suc, ◌+◌, ◌*◌, ◌-◌, ◌^◌, ◌<◌}
use mathlib.Core.Path.{◌≡◌, sym, ap, ◌∙◌}
use mathlib.Core.List.{List}
use native.Mathlib.Omega.{arith}
use native.Mathlib.Nat.{mul_comm, pow-suc}
use lib.ListN.{get_or}
use lib.Pow.{pow-add, pow_pos}
use Rattle.shape.specs.Shape.{Fit}
use Rattle.shape.specs.Key.{per_attribute}
use Rattle.split.specs.Steps.{step_number, attribute_depth}
use Rattle.split.proofs.DepthLaws.{step-here}
use Rattle.record.specs.Packed.{SixteenBits}
use Rattle.record.proofs.PackedLaws.{packed_key-lt}
use Rattle.page_ends.proofs.StepLaws.{fixed_bits-suc}
use Rattle.page_ends.specs.Ends.{fixed_bits}
use Rattle.query_rows.specs.Rows.{value_bit}

-- ---- at a step

-- t is the number of the step (k, z)
module _ (ws : List ℕ) (fit : Fit ws) (t k z : ℕ) (hz : z < 4) (hk : k < get_or ws z 0)
    (number : step_number ws k z ≡ t) where
  -- its attribute's width
  abbrev w : ℕ
  w = get_or ws z 0

  pub value_bit-here : value_bit ws t ≡ 2 ^ (16 * z) * 2 ^ (w - suc k)
  value_bit-here =
      ap (λ s. 2 ^ (16 * s.attribute + (get_or ws s.attribute 0 - suc s.bit))) (step-here ws fit k z hz hk number)
      ∙ pow-add 2 (16 * z) (w - suc k)

  -- the bits that are free before it are twice as many values
  pub halves : 2 ^ (w - k) ≡ 2 ^ (w - suc k) * 2
  halves = let e : w - k ≡ suc (w - suc k) = omega arith in ap (λ n. 2 ^ n) e ∙ pow-suc 2 (w - suc k)

  pub fixed_bits-here : fixed_bits ws (suc t) ≡ fixed_bits ws t + value_bit ws t
  fixed_bits-here =
      let turned = mul_comm (2 ^ (w - suc k)) (2 ^ (16 * z)) in
      fixed_bits-suc ws fit k z hz hk t number ∙ ap (λ v. fixed_bits ws t + v) (turned ∙ sym value_bit-here)

-- the mask fits
pub fixed_bits-lt : (ws : List ℕ) (x : ℕ) → fixed_bits ws x < 2 ^ 64
unfolding fixed_bits
fixed_bits-lt ws x = packed_key-lt _ sixteen
  where
    lane : (n : ℕ) → 2 ^ 16 - 2 ^ n < 2 ^ 16
    lane n = omega (arith, pow_pos n)

    sixteen : SixteenBits (per_attribute (λ j. 2 ^ 16 - 2 ^ (get_or ws j 0 - attribute_depth ws x j)))
    sixteen zero = lane (get_or ws 0 0 - attribute_depth ws x 0)
    sixteen (suc zero) = lane (get_or ws 1 0 - attribute_depth ws x 1)
    sixteen (suc (suc zero)) = lane (get_or ws 2 0 - attribute_depth ws x 2)
    sixteen (suc (suc (suc zero))) = lane (get_or ws 3 0 - attribute_depth ws x 3)
    sixteen (suc (suc (suc (suc j)))) = omega arith

-- The low corner of a region, as a packed key. Assumes nothing.
use Rattle.std.specs.Prelude.{ℕ, ◌*◌, ◌-◌, ◌^◌, ◌<◌, ◌≡◌, Bool, List, get_or}
use Rattle.shape.specs.Key.{per_attribute}
use Rattle.split.specs.Steps.{step_number, attribute_depth}
use Rattle.split.specs.Bits.{bit_of}
use Rattle.record.specs.Packed.{packed_key}

-- the low corner of the region of the first x bits of p, packed: of attribute j the first h_j bits are the region's,
-- and the others 0
pub record Corner (ws : List ℕ) (x : ℕ) (p : ℕ → Bool) (key : ℕ) : Type 0 where
  pub first : ℕ → ℕ
  pub packs : key ≡ packed_key (per_attribute (λ j. first j * 2 ^ (get_or ws j 0 - attribute_depth ws x j)))
  pub below : (j : ℕ) → j < 4 → first j < 2 ^ attribute_depth ws x j
  pub bits : (j k : ℕ) → j < 4 → k < attribute_depth ws x j
      → bit_of (attribute_depth ws x j) (first j) k ≡ p (step_number ws k j)

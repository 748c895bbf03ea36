-- Packed keys between two others, value by value. Assumes nothing.
use Rattle.std.specs.Prelude.{ℕ, Bool}
use Rattle.shape.specs.Shape.{within, all_below}
use Rattle.record.specs.Packed.{packed_value}

-- each of the four values of a key is between those of two others, both ends included: (1, 2, 0, 0) is between
-- (1, 0, 0, 0) and (1, 2, 9, 0)
unfoldable pub lies_between : ℕ → ℕ → ℕ → Bool
lies_between low high key = all_below 4 (λ j. within (packed_value low j) (packed_value high j) (packed_value key j))

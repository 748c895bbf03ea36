-- Packed keys added to and taken from each other value by value, modulo 2^16 each: fields of a page as encodings, and
-- back. Assumes nothing.
use Rattle.std.specs.Prelude.{ℕ, ◌+◌, ◌-◌, ◌%◌, ◌^◌, List, get_or}
use Rattle.shape.specs.Key.{per_attribute, bias}
use Rattle.shape.specs.declared.Shape.{Shape}
use Rattle.record.specs.Packed.{packed_key, unpacked_key}

-- ---- lists

unfoldable pub sums : List ℕ → List ℕ → List ℕ
sums xs ys = per_attribute (λ j. (get_or xs j 0 + get_or ys j 0) % 2 ^ 16)

unfoldable pub differences : List ℕ → List ℕ → List ℕ
differences xs ys = per_attribute (λ j. (get_or xs j 0 + (2 ^ 16 - get_or ys j 0)) % 2 ^ 16)

-- ---- packed keys

abbrev pub lane_sum : ℕ → ℕ → ℕ
lane_sum x y = packed_key (sums (unpacked_key x) (unpacked_key y))

abbrev pub lane_difference : ℕ → ℕ → ℕ
lane_difference x y = packed_key (differences (unpacked_key x) (unpacked_key y))

-- what a shape adds to its values, packed
unfoldable pub bias_key : Shape → ℕ
bias_key s = packed_key (per_attribute (bias s))

-- the packed fields of a packed key of encodings
abbrev pub fields_key : Shape → ℕ → ℕ
fields_key s key = lane_difference key (bias_key s)

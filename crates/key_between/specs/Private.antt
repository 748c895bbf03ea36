-- What the private functions compute, for the values of attributes 0 and 2. Assumes nothing.
use Rattle.std.specs.Prelude.{ℕ, ◌+◌, ◌*◌, ◌^◌, Bool, cond, leb}
use Rattle.shape.specs.Shape.{within}
use Rattle.record.specs.Packed.{packed_value}

-- the two values, at their places
abbrev pub even_values : ℕ → ℕ
even_values key = packed_value key 0 + 2 ^ 32 * packed_value key 2

-- the bit above each of them, set where its test passes
unfoldable pub even_flags : Bool → Bool → ℕ
even_flags α β = cond α (2 ^ 16) 0 + 2 ^ 32 * cond β (2 ^ 16) 0

-- value j of the first key is at most that of the second
abbrev pub not_below : ℕ → ℕ → ℕ → Bool
not_below first second j = leb (packed_value first j) (packed_value second j)

-- value j of a key is between those of two others
abbrev pub within_at : ℕ → ℕ → ℕ → ℕ → Bool
within_at low high key j = within (packed_value low j) (packed_value high j) (packed_value key j)

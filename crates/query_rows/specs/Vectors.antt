-- Index vectors in one number, and the address that a row gives one. Assumes nothing.
use Rattle.std.specs.Prelude.{ℕ, ◌+◌, ◌*◌, ◌/◌, ◌%◌, ◌^◌, ◌≤◌, ◌<◌, List, [], ◌∷◌, get_or}

-- 16 bits for each index, the first lowest
abbrev pub packed : List ℕ → ℕ
packed [] = 0
packed (i ∷ is) = i + 2 ^ 16 * packed is

-- 16 bits of the product of two indices in one number and a multiplier, from bit 16 on
abbrev pub half_address : ℕ → ℕ → ℕ
half_address v m = v * m / 2 ^ 16 % 2 ^ 16

-- the address by the multipliers of the row at this place
unfoldable pub row_address : List ℕ → ℕ → ℕ → ℕ
row_address rows at v = half_address (v % 2 ^ 32) (get_or rows at 0) + half_address (v / 2 ^ 32) (get_or rows (at + 1) 0)

-- the row lies in the table, and no product passes 64 bits
pub record Addressable (rows : List ℕ) (at : ℕ) : Type 0 where
  pub row : at + 2 ≤ 78
  pub low : get_or rows at 0 < 2 ^ 32
  pub high : get_or rows (at + 1) 0 < 2 ^ 32

-- Laws of index vectors in one number: its halves, one more at an attribute, and a half times a multiplier. Assumes
-- nothing.
use Prim.Native.Nat.{ℕ, zero, suc, ◌+◌, ◌*◌, ◌-◌, ◌/◌, ◌%◌, ◌^◌, ◌≤◌, ◌<◌}
use mathlib.Core.Path.{◌≡◌, refl}
use mathlib.Core.List.{List, [], ◌∷◌}
use native.Mathlib.Omega.{arith}
use native.Mathlib.Nat.{mul-le-mul}
use lib.ListN.{get_or, length}
use lib.Pow.{pow_mono}
use Rattle.cell.proofs.CellLaws.{plus}
use Rattle.query_rows.specs.Rows.{multiplier}
use Rattle.query_rows.specs.Vectors.{packed, half_address}

-- ---- four indices

abbrev pub four_numbers : ℕ → ℕ → ℕ → ℕ → List ℕ
four_numbers a b c d = a ∷ b ∷ c ∷ d ∷ []

pub four_numbers-of : (v : List ℕ) → length v ≡ 4 → v ≡ four_numbers (get_or v 0 0) (get_or v 1 0) (get_or v 2 0) (get_or v 3 0)
four_numbers-of [] e = absurd (omega arith)
four_numbers-of (a ∷ []) e = absurd (omega arith)
four_numbers-of (a ∷ b ∷ []) e = absurd (omega arith)
four_numbers-of (a ∷ b ∷ c ∷ []) e = absurd (omega arith)
four_numbers-of (a ∷ b ∷ c ∷ d ∷ []) e = refl
four_numbers-of (a ∷ b ∷ c ∷ d ∷ x ∷ v) e = absurd (omega arith)

-- ---- in one number

-- its two halves
pub packed-halves : (a b c d : ℕ) → a < 2 ^ 16 → b < 2 ^ 16
    → (packed (four_numbers a b c d) % 2 ^ 32 ≡ a + 2 ^ 16 * b)
    × (packed (four_numbers a b c d) / 2 ^ 32 ≡ c + 2 ^ 16 * d)
packed-halves a b c d ha hb = (omega arith, omega arith)

-- all four fit one number
pub packed_lt : (a b c d : ℕ) → a < 2 ^ 16 → b < 2 ^ 16 → c < 2 ^ 16 → d < 2 ^ 16
    → packed (four_numbers a b c d) < 2 ^ 64
packed_lt a b c d ha hb hc hd = omega arith

-- x more at attribute z
pub packed-plus : (z x a b c d : ℕ) → z < 4
    → packed (plus z x (four_numbers a b c d)) ≡ packed (four_numbers a b c d) + 2 ^ (16 * z) * x
packed-plus zero x a b c d h = omega arith
packed-plus (suc zero) x a b c d h = omega arith
packed-plus (suc (suc zero)) x a b c d h = omega arith
packed-plus (suc (suc (suc zero))) x a b c d h = omega arith
packed-plus (suc (suc (suc (suc z)))) x a b c d h = absurd (omega arith)

-- ---- two indices by a multiplier

-- of the four terms of the product one lies below bit 16 and one from bit 32 on
pub half_address-multiplier : (a b s r : ℕ) → a * 2 ^ s + b * 2 ^ r < 2 ^ 16 → a * 2 ^ r < 2 ^ 16
    → half_address (a + 2 ^ 16 * b) (multiplier s r) ≡ a * 2 ^ s + b * 2 ^ r
half_address-multiplier a b s r sum cross =
    let terms : (a + 2 ^ 16 * b) * multiplier s r
    ≡ a * 2 ^ r + 2 ^ 16 * (a * 2 ^ s + b * 2 ^ r) + 2 ^ 32 * (b * 2 ^ s) = omega arith in
    omega arith

-- a product with a half of a vector fits
pub multiplier_lt : (s r : ℕ) → s ≤ 12 → r ≤ 12 → multiplier s r < 2 ^ 32
multiplier_lt s r hs hr = omega (arith, pow_mono {j = 12} hs, pow_mono {j = 12} hr)

pub half-product-lt : (v m : ℕ) → v < 2 ^ 32 → m < 2 ^ 32 → v * m < 2 ^ 64
half-product-lt v m hv hm =
    let low : v ≤ 2 ^ 32 - 1 = omega arith in
    let high : m ≤ 2 ^ 32 - 1 = omega arith in
    omega (arith, mul-le-mul low high)

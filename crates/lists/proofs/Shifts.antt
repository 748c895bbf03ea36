-- Laws of shifts and leading zeros of 64-bit numbers. Assumes nothing.
use Prim.Native.Nat.{ℕ, suc, ◌+◌, ◌*◌, ◌-◌, ◌%◌, ◌^◌, ◌≤◌, ◌<◌}
use mathlib.Core.Path.{◌≡◌, ap, ◌∙◌, subst}
use native.Mathlib.Omega.{arith}
use native.Mathlib.Nat.{mod-eq_of_lt}
use lib.Count.{count_leading_zeros, leading_top}
use lib.Pow.{pow-lt}

-- 1 << w
pub one_shifted : (w : ℕ) → w < 64 → (1 * 2 ^ w) % 2 ^ 64 ≡ 2 ^ w
one_shifted w h =
    let e : 1 * 2 ^ w ≡ 2 ^ w = omega arith in
    ap (λ x. x % 2 ^ 64) e ∙ mod-eq_of_lt (pow-lt h)

-- the highest power of two in a number, from its leading zeros
pub leading-bounds : (a : ℕ) → (a ≡ 0 → ⊥) → a < 2 ^ 64
    → (count_leading_zeros 64 a ≤ 63) × (2 ^ (63 - count_leading_zeros 64 a) ≤ a) × (a < 2 ^ (63 - count_leading_zeros 64 a + 1))
leading-bounds a n f =
    let l = leading_top 64 a (omega arith) f in
    let e : l.0 ≡ 63 - count_leading_zeros 64 a = omega (arith, l.1) in
    let e1 : suc l.0 ≡ 63 - count_leading_zeros 64 a + 1 = omega (arith, l.1) in
    (omega (arith, l.1), subst (λ x. 2 ^ x ≤ a) e l.2, subst (λ x. a < 2 ^ x) e1 l.3)

-- Laws of the limits that Fresh fixes: the logarithm from leading zeros; where the P pages lie. Assumes nothing.
use Prim.Native.Nat.{ℕ, zero, suc, ◌+◌, ◌-◌, ◌*◌, ◌/◌, ◌^◌, ◌<◌, ◌≤◌}
use mathlib.Core.Path.{◌≡◌, refl, ap, ◌∙◌}
use mathlib.Core.Logic.{◌⊎◌, inl, inr}
use native.Mathlib.Omega.{arith}
use native.Mathlib.Nat.{pow-suc, le_trans, mul-le-mul_right, div-mul-le_self, min-le_right}
use lib.Count.{count_leading_zeros, leading_of_zero}
use borrow.Author.Tests.{lt-ltb, le-ltb}
use Rattle.lists.proofs.Numbers.{lt-or-le}
use Rattle.shape.specs.declared.Shape.{Shape}
use Rattle.page.specs.Page.{page_size}
use Rattle.model.specs.Limits.{logarithm, page_limit_of}

-- ---- the logarithm

logarithm-small : (n m : ℕ) → m < 2 → logarithm n m ≡ 0
unfolding logarithm
logarithm-small zero m h = refl
logarithm-small (suc n) m h = rw (lt-ltb m 2 h, logarithm)

logarithm-suc : (n m : ℕ) → 2 ≤ m → logarithm (suc n) m ≡ suc (logarithm n (m / 2))
unfolding logarithm
logarithm-suc n m h = rw (le-ltb m 2 h, logarithm)

leading_zeros-half : (n m : ℕ) → 0 < m → count_leading_zeros (suc n) m ≡ count_leading_zeros n (m / 2)
unfolding count_leading_zeros
leading_zeros-half n zero h = absurd (omega arith)
leading_zeros-half n (suc m) h = refl

-- the highest digit, the digits below it and the zeros above it make n
logarithm-add-leading_zeros : (n m : ℕ) → 0 < m → m < 2 ^ n → logarithm n m + count_leading_zeros n m + 1 ≡ n
logarithm-add-leading_zeros zero m p h = absurd (omega arith)
logarithm-add-leading_zeros (suc n) m p h =
    go (lt-or-le m 2) (λ q. logarithm-add-leading_zeros n (m / 2) q (omega (arith, pow-suc 2 n)))
  where
    go : (m < 2) ⊎ (2 ≤ m) → (0 < m / 2 → logarithm n (m / 2) + count_leading_zeros n (m / 2) + 1 ≡ n)
        → logarithm (suc n) m + count_leading_zeros (suc n) m + 1 ≡ suc n
    go (inl s) half =
        let none : m / 2 ≡ 0 = omega arith in
        let zeros = leading_zeros-half n m p ∙ ap (count_leading_zeros n) none ∙ leading_of_zero n in
        omega (arith, logarithm-small (suc n) m s)
    go (inr s) half = omega (arith, logarithm-suc n m s, leading_zeros-half n m p, half (omega arith))

-- of a 64-bit number, as the code has it
pub logarithm-leading_zeros : (m : ℕ) → 0 < m → m < 2 ^ 64 → logarithm 64 m ≡ 63 - count_leading_zeros 64 m
logarithm-leading_zeros m p h = omega (arith, logarithm-add-leading_zeros 64 m p h)

-- ---- pages

-- within the lent bytes
pub page_limit_of-fits : (s : Shape) (bytes : ℕ) → page_limit_of s bytes * page_size s.capacity ≤ bytes
unfolding page_limit_of
page_limit_of-fits s bytes =
    let size = page_size s.capacity in
    le_trans (mul-le-mul_right size (min-le_right 4096 (bytes / size))) (div-mul-le_self bytes size)

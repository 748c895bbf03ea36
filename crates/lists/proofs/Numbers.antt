-- Laws of numbers: cases by order, powers of two, digits, the greatest of four. Assumes nothing.
use Prim.Native.Nat.{ℕ, zero, suc, ◌+◌, ◌-◌, ◌*◌, ◌/◌, ◌%◌, ◌^◌, ◌≤◌, ◌<◌, max}
use mathlib.Core.Path.{◌≡◌, ap, ◌∙◌}
use mathlib.Core.Logic.{◌⊎◌, inl, inr}
use native.Mathlib.Omega.{arith}
use native.Mathlib.Decide.{dec_lt}
use native.Mathlib.Nat.{mul-le-mul_right}
use lib.Pow.{pow_mono, field, mod-mod-pow}

-- ---- cases

pub lt-or-le : (a b : ℕ) → (a < b) ⊎ (b ≤ a)
lt-or-le a b = go (dec_lt a b)
  where
    go : Dec (a < b) → (a < b) ⊎ (b ≤ a)
    go (yes h) = inl h
    go (no h) = inr (omega arith)

pub eq-or-ne : (a b : ℕ) → (a ≡ b) ⊎ (a ≡ b → ⊥)
eq-or-ne a b = go (dec_lt a b) (dec_lt b a)
  where
    go : Dec (a < b) → Dec (b < a) → (a ≡ b) ⊎ (a ≡ b → ⊥)
    go (yes h) d = inr (λ e. omega arith)
    go (no h) (yes k) = inr (λ e. omega arith)
    go (no h) (no k) = inl (omega arith)

pub max_cases : (a b : ℕ) → (max a b ≡ a) ⊎ (max a b ≡ b)
max_cases a b = go (lt-or-le a b)
  where
    go : (a < b) ⊎ (b ≤ a) → (max a b ≡ a) ⊎ (max a b ≡ b)
    go (inl h) = inr (omega arith)
    go (inr h) = inl (omega arith)

-- ---- powers of two

pub pow-double : (k : ℕ) → 2 ^ suc k ≡ 2 ^ k + 2 ^ k
pow-double k = omega arith

-- a power at most i, below a power
pub pow_below : (s d i : ℕ) → 2 ^ s ≤ i → i < 2 ^ d → s < d
pow_below s d i l h = go (lt-or-le s d)
  where
    go : (s < d) ⊎ (d ≤ s) → s < d
    go (inl a) = a
    go (inr b) = absurd (omega (arith, pow_mono b))

-- the bits below w are those of the remainder
pub bit-mod : (w v i : ℕ) → i < w → (v % 2 ^ w) / 2 ^ i % 2 ≡ v / 2 ^ i % 2
bit-mod w v i h =
    let e : w ≡ suc (w - suc i) + i = omega arith in
    let f : suc (w - suc i) ≡ (w - suc i) + 1 = omega arith in
    ap (λ k. (v % 2 ^ k) / 2 ^ i % 2) e
    ∙ ap (λ x. x % 2) (field v (suc (w - suc i)) i)
    ∙ ap (λ k. v / 2 ^ i % 2 ^ k % 2) f
    ∙ mod-mod-pow (v / 2 ^ i) (w - suc i) 1

-- ---- digits

-- digit i before r, in a number of J digits
pub digit_lt : (i J m r : ℕ) → i < J → r < m → i * m + r < J * m
digit_lt i J m r hi hr = omega (arith, mul-le-mul_right m hi)

-- ---- the greatest of four

pub max-attained : (f : ℕ → ℕ) (m : ℕ) → max (f 0) (max (f 1) (max (f 2) (f 3))) ≡ m → (r : ℕ) × (r < 4) × (f r ≡ m)
max-attained f m e = go (lt-or-le (f 0) m) (lt-or-le (f 1) m) (lt-or-le (f 2) m)
  where
    go : (f 0 < m) ⊎ (m ≤ f 0) → (f 1 < m) ⊎ (m ≤ f 1) → (f 2 < m) ⊎ (m ≤ f 2) → (r : ℕ) × (r < 4) × (f r ≡ m)
    go (inr a) b c = (0, omega arith, omega arith)
    go (inl a) (inr b) c = (1, omega arith, omega arith)
    go (inl a) (inl b) (inr c) = (2, omega arith, omega arith)
    go (inl a) (inl b) (inl c) = (3, omega arith, omega arith)

pub max_bounds : (f : ℕ → ℕ) (m : ℕ) → max (f 0) (max (f 1) (max (f 2) (f 3))) ≡ m → (r : ℕ) → r < 4 → f r ≤ m
max_bounds f m e zero h = omega arith
max_bounds f m e (suc zero) h = omega arith
max_bounds f m e (suc (suc zero)) h = omega arith
max_bounds f m e (suc (suc (suc zero))) h = omega arith
max_bounds f m e (suc (suc (suc (suc r)))) h = absurd (omega arith)

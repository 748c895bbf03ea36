-- A number below a bound that is mapped to a value, or none. Assumes nothing.
use Prim.Native.Nat.{ℕ, zero, suc, ◌<◌}
use mathlib.Core.Path.{◌≡◌, sym, ap, ◌∙◌}
use mathlib.Core.Logic.{◌⊎◌, inl, inr}
use native.Mathlib.Omega.{arith}
use Rattle.lists.proofs.Numbers.{eq-or-ne}

pub find-below : (f : ℕ → ℕ) (v n : ℕ) → ((a : ℕ) × (a < n) × (f a ≡ v)) ⊎ ((a : ℕ) → a < n → f a ≡ v → ⊥)
find-below f v zero = inr (λ a l e. omega arith)
find-below f v (suc n) = by-case (eq-or-ne (f n) v) (find-below f v n)
  where
    by-case : (f n ≡ v) ⊎ (f n ≡ v → ⊥) → ((a : ℕ) × (a < n) × (f a ≡ v)) ⊎ ((a : ℕ) → a < n → f a ≡ v → ⊥)
        → ((a : ℕ) × (a < suc n) × (f a ≡ v)) ⊎ ((a : ℕ) → a < suc n → f a ≡ v → ⊥)
    by-case (inl e) h = inl (n, omega arith, e)
    by-case (inr d) (inl h) = inl (h.0, omega (arith, h.1), h.2)
    by-case (inr d) (inr h) = inr (λ a l e. last a l e (eq-or-ne a n))
      where
        last : (a : ℕ) → a < suc n → f a ≡ v → (a ≡ n) ⊎ (a ≡ n → ⊥) → ⊥
        last a l e (inl k) = d (ap f (sym k) ∙ e)
        last a l e (inr k) = h a (omega arith) e

-- Laws of numbers by their bits, the first most significant: strings with equal bits, order, and numbers read back;
-- comparing by the first bits, where one of two strings goes on with bits 0 or 1 only. Assumes nothing.
use Prim.Native.Nat.{ℕ, zero, suc, ◌+◌, ◌*◌, ◌/◌, ◌%◌, ◌^◌, ◌≤◌, ◌<◌}
use mathlib.Core.Path.{◌≡◌, refl, sym, ap, ◌∙◌, subst}
use mathlib.Core.Bool.{Bool, true, false}
use mathlib.Core.Logic.{◌⊎◌, inl, inr}
use native.Mathlib.Omega.{arith}
use native.Mathlib.Nat.{two-pow-succ, pow-zero, add-zero, add-suc}
use lib.Dec.{eqb, leb}
use borrow.Author.Tests.{leb-true, le-leb}
use Rattle.lists.proofs.Bools.{eq-of-iff}
use Rattle.lists.proofs.Numbers.{lt-or-le}
use Rattle.split.specs.Steps.{bit_value}
use Rattle.split.specs.Bits.{bit_of}
use Rattle.cell.specs.Cell.{Agree}
use Rattle.record.proofs.KeyLaws.{bit_of-half, bit_of-last}
use Rattle.range_box.specs.Box.{number}

-- ---- strings

pub bit_value-le : (b : Bool) → bit_value b ≤ 1
bit_value-le true = omega arith
bit_value-le false = omega arith

bit_value-mono : (b c : Bool) → (b ≡ true → c ≡ true) → bit_value b ≤ bit_value c
bit_value-mono true c h = rw (h refl) (omega arith)
bit_value-mono false c h = omega arith

pub number-agree : (n : ℕ) (β γ : ℕ → Bool) → Agree n β γ → number β n ≡ number γ n
unfolding number
number-agree zero β γ a = refl
number-agree (suc n) β γ a = cc (number-agree n β γ (λ k l. a k (omega arith)), a n (omega arith))

pub number-mono : (n : ℕ) (β γ : ℕ → Bool) → ((k : ℕ) → k < n → β k ≡ true → γ k ≡ true) → number β n ≤ number γ n
unfolding number
number-mono zero β γ h = omega arith
number-mono (suc n) β γ h =
    omega (arith, number-mono n β γ (λ k l. h k (omega arith)), bit_value-mono (β n) (γ n) (h n (omega arith)))

pub number_lt : (n : ℕ) (β : ℕ → Bool) → number β n < 2 ^ n
unfolding number
number_lt zero β = omega arith
number_lt (suc n) β = omega (arith, number_lt n β, bit_value-le (β n), two-pow-succ n)

last_bit : (b c : Bool) (x y : ℕ) → 2 * x + bit_value b ≡ 2 * y + bit_value c → (b ≡ c) × (x ≡ y)
last_bit true true x y e = (refl, omega arith)
last_bit true false x y e = absurd (omega arith)
last_bit false true x y e = absurd (omega arith)
last_bit false false x y e = (refl, omega arith)

pub agree-of-number : (n : ℕ) (β γ : ℕ → Bool) → number β n ≡ number γ n → Agree n β γ
unfolding number
agree-of-number zero β γ e k l = absurd (omega arith)
agree-of-number (suc n) β γ e k l = go (lt-or-le k n) (agree-of-number n β γ d.1 k)
  where
    d : (β n ≡ γ n) × (number β n ≡ number γ n)
    d = last_bit (β n) (γ n) (number β n) (number γ n) e

    go : (k < n) ⊎ (n ≤ k) → (k < n → β k ≡ γ k) → β k ≡ γ k
    go (inl m) ih = ih m
    go (inr m) ih = let q : n ≡ k = omega arith in subst (λ x. β x ≡ γ x) q d.0

-- ---- a number's bits

bit_value-odd : (v : ℕ) → bit_value (eqb (v % 2) 1) ≡ v % 2
bit_value-odd v = go (v % 2) (omega arith)
  where
    go : (y : ℕ) → y < 2 → bit_value (eqb y 1) ≡ y
    go zero h = refl
    go (suc zero) h = refl
    go (suc (suc y)) h = absurd (omega arith)

-- a number of n bits, from its bits
pub number-bit_of : (n v : ℕ) → v < 2 ^ n → number (bit_of n v) n ≡ v
unfolding number
number-bit_of zero v h = omega (arith, pow-zero 2)
number-bit_of (suc n) v h =
    let halves : number (bit_of (suc n) v) n ≡ v / 2 =
    number-agree n (bit_of (suc n) v) (bit_of n (v / 2)) (λ k l. sym (bit_of-half n v k l))
    ∙ number-bit_of n (v / 2) (omega (arith, two-pow-succ n)) in
    let last : bit_value (bit_of (suc n) v n) ≡ v % 2 = ap bit_value (bit_of-last n v) ∙ bit_value-odd v in
    omega arith

-- ---- comparing by the first bits

-- one string goes on with bits 0
pub number-le-zeros : (h d : ℕ) (β γ : ℕ → Bool) → ((k : ℕ) → h ≤ k → k < h + d → β k ≡ false)
    → leb (number β (h + d)) (number γ (h + d)) ≡ leb (number β h) (number γ h)
unfolding number
number-le-zeros h zero β γ z = rw (add-zero h)
number-le-zeros h (suc d) β γ z =
    rw (add-suc h d) (step ∙ number-le-zeros h d β γ (λ k l m. z k l (omega arith)))
  where
    last : bit_value (β (h + d)) ≡ 0
    last = ap bit_value (z (h + d) (omega arith) (omega arith))

    step : leb (number β (suc (h + d))) (number γ (suc (h + d))) ≡ leb (number β (h + d)) (number γ (h + d))
    step =
        eq-of-iff _ _
        (λ e.
        le-leb (number β (h + d)) (number γ (h + d))
        (omega (
          arith,
          leb-true (number β (suc (h + d))) (number γ (suc (h + d))) e,
          last,
          bit_value-le (γ (h + d)),
        )))
        (λ e.
        le-leb (number β (suc (h + d))) (number γ (suc (h + d)))
        (omega (arith, leb-true (number β (h + d)) (number γ (h + d)) e, last)))

-- the other goes on with bits 1
pub number-le-ones : (h d : ℕ) (β γ : ℕ → Bool) → ((k : ℕ) → h ≤ k → k < h + d → γ k ≡ true)
    → leb (number β (h + d)) (number γ (h + d)) ≡ leb (number β h) (number γ h)
unfolding number
number-le-ones h zero β γ z = rw (add-zero h)
number-le-ones h (suc d) β γ z =
    rw (add-suc h d) (step ∙ number-le-ones h d β γ (λ k l m. z k l (omega arith)))
  where
    last : bit_value (γ (h + d)) ≡ 1
    last = ap bit_value (z (h + d) (omega arith) (omega arith))

    step : leb (number β (suc (h + d))) (number γ (suc (h + d))) ≡ leb (number β (h + d)) (number γ (h + d))
    step =
        eq-of-iff _ _
        (λ e.
        le-leb (number β (h + d)) (number γ (h + d))
        (omega (arith, leb-true (number β (suc (h + d))) (number γ (suc (h + d))) e, last)))
        (λ e.
        le-leb (number β (suc (h + d))) (number γ (suc (h + d)))
        (omega (
          arith,
          leb-true (number β (h + d)) (number γ (h + d)) e,
          last,
          bit_value-le (β (h + d)),
        )))

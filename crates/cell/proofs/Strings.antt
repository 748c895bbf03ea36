-- Laws of strings of bits: sums of bits, and the string that has given indices. Assumes nothing.
use Prim.Native.Nat.{ℕ, zero, suc, ◌+◌, ◌*◌, ◌/◌, ◌%◌, ◌^◌, ◌≤◌, ◌<◌}
use mathlib.Core.Path.{◌≡◌, refl, sym, ap, ◌∙◌, subst}
use mathlib.Core.Bool.{Bool, true, false}
use mathlib.Core.List.{List}
use mathlib.Core.Logic.{◌⊎◌, inl, inr}
use native.Mathlib.Omega.{arith}
use native.Mathlib.Nat.{le_trans, mul-le-mul_right, mod-eq_of_lt, mod-one}
use lib.Dec.{eqb}
use lib.Pow.{mod-pow-add}
use lib.ListN.{get_or}
use Rattle.lists.proofs.Numbers.{lt-or-le}
use Rattle.shape.specs.Shape.{Fit}
use Rattle.split.specs.Steps.{step, bit_value, attribute_depth}
use Rattle.split.proofs.StepLaws.{step-step_number}
use Rattle.split.proofs.DepthLaws.{attribute_depth-width}
use Rattle.cell.specs.Cell.{sum_bits, attribute_bit, Agree}

-- ---- sums of bits

bit_value-le : (b : Bool) → bit_value b ≤ 1
bit_value-le true = omega arith
bit_value-le false = omega arith

pub sum_bits-lt : (β : ℕ → Bool) (h : ℕ) → sum_bits β h < 2 ^ h
unfolding sum_bits
sum_bits-lt β zero = omega arith
sum_bits-lt β (suc h) = omega (arith, sum_bits-lt β h, mul-le-mul_right (2 ^ h) (bit_value-le (β h)))

pub sum_bits-agree : (h : ℕ) (β γ : ℕ → Bool) → Agree h β γ → sum_bits β h ≡ sum_bits γ h
unfolding sum_bits
sum_bits-agree zero β γ a = refl
sum_bits-agree (suc h) β γ a = cc (sum_bits-agree h β γ (λ k l. a k (omega arith)), a h (omega arith))

-- a bit of weight p above what is below p
bit-same : (b c : Bool) (x y p : ℕ) → x < p → y < p → x + bit_value b * p ≡ y + bit_value c * p → (b ≡ c) × (x ≡ y)
bit-same true true x y p hx hy e = (refl, omega arith)
bit-same true false x y p hx hy e = absurd (omega arith)
bit-same false true x y p hx hy e = absurd (omega arith)
bit-same false false x y p hx hy e = (refl, omega arith)

pub agree-of-sum_bits : (h : ℕ) (β γ : ℕ → Bool) → sum_bits β h ≡ sum_bits γ h → Agree h β γ
unfolding sum_bits
agree-of-sum_bits zero β γ e k l = absurd (omega arith)
agree-of-sum_bits (suc h) β γ e k l = go (lt-or-le k h) (agree-of-sum_bits h β γ d.1 k)
  where
    d : (β h ≡ γ h) × (sum_bits β h ≡ sum_bits γ h)
    d = bit-same (β h) (γ h) (sum_bits β h) (sum_bits γ h) (2 ^ h) (sum_bits-lt β h) (sum_bits-lt γ h) e

    go : (k < h) ⊎ (h ≤ k) → (k < h → β k ≡ γ k) → β k ≡ γ k
    go (inl m) ih = ih m
    go (inr m) ih = let q : h ≡ k = omega arith in subst (λ x. β x ≡ γ x) q d.0

-- bit k of a number, bit 0 the least significant
abbrev pub binary_bit : ℕ → ℕ → Bool
binary_bit x k = eqb (x / 2 ^ k % 2) 1

pub bit_value-digit : (y : ℕ) → y < 2 → bit_value (eqb y 1) ≡ y
bit_value-digit zero h = refl
bit_value-digit (suc zero) h = refl
bit_value-digit (suc (suc y)) h = absurd (omega arith)

pub sum_bits-binary_bit : (x h : ℕ) → sum_bits (binary_bit x) h ≡ x % 2 ^ h
unfolding sum_bits
sum_bits-binary_bit x zero = sym (mod-one x)
sum_bits-binary_bit x (suc h) =
    let digit : bit_value (binary_bit x h) ≡ x / 2 ^ h % 2 = bit_value-digit (x / 2 ^ h % 2) (omega arith) in
    let e : 1 + h ≡ suc h = omega arith in
    omega (arith, sum_bits-binary_bit x h, ap (λ y. y * 2 ^ h) digit, mod-pow-add x 1 h, ap (λ n. x % 2 ^ n) e)

-- ---- strings

-- the string of an index vector: at the step (k, j), bit k of index j
abbrev pub string_of : List ℕ → List ℕ → ℕ → Bool
string_of ws v t = binary_bit (get_or v (step ws t).attribute 0) (step ws t).bit

pub sum_bits-string_of : (ws : List ℕ) → Fit ws → (v : List ℕ) (t j : ℕ) → j < 4 → get_or v j 0 < 2 ^ attribute_depth ws t j
    → sum_bits (attribute_bit ws (string_of ws v) j) (attribute_depth ws t j) ≡ get_or v j 0
sum_bits-string_of ws fit v t j hj h =
    sum_bits-agree (attribute_depth ws t j) (attribute_bit ws (string_of ws v) j) (binary_bit (get_or v j 0)) bits
    ∙ sum_bits-binary_bit (get_or v j 0) (attribute_depth ws t j)
    ∙ mod-eq_of_lt h
  where
    bits : Agree (attribute_depth ws t j) (attribute_bit ws (string_of ws v) j) (binary_bit (get_or v j 0))
    bits k l =
        ap (λ s. binary_bit (get_or v s.attribute 0) s.bit)
        (step-step_number ws k j hj (le_trans l (attribute_depth-width ws j t hj)) (fit j))

-- Laws of the mask of the fixed bits as the code puts it together: one value's part, all four. Assumes nothing.
use Prim.Native.Nat.{ℕ, ◌+◌, ◌-◌, ◌*◌, ◌/◌, ◌%◌, ◌^◌, ◌≤◌, ◌<◌, min}
use mathlib.Core.Path.{◌≡◌, refl, sym, ap, ◌∙◌}
use mathlib.Core.List.{[], ◌∷◌}
use native.Mathlib.Omega.{arith}
use native.Mathlib.Nat.{one-mul}
use lib.ListN.{length}
use lib.Pow.{pow_mono, pow_pos, shl_exact}
use Rattle.shape.specs.Shape.{total}
use Rattle.split.specs.Steps.{steps_below}
use Rattle.split.proofs.StepLaws.{depth_before}
use Rattle.pairs.proofs.PlaceLaws.{attribute_depth-place, steps_before-depths}
use Rattle.record.specs.Packed.{packed_key}
use Rattle.page_ends.specs.Ends.{fixed_bits}

-- ---- one value: 1 shifted to its lowest fixed bit

pub shifted_one : (k : ℕ) → k ≤ 16 → (1 * 2 ^ k) % 2 ^ 64 ≡ 2 ^ k
shifted_one k h = shl_exact 1 k 64 (omega arith) (omega arith) ∙ one-mul (2 ^ k)

pub shifted-one-le : (k : ℕ) → k ≤ 16 → (1 * 2 ^ k) % 2 ^ 64 ≤ 2 ^ 16
shifted-one-le k h = rw (shifted_one k h) (pow_mono h)

pub fixed-value : (w n f : ℕ) → f ≤ 16 → f + min w n ≡ w
    → (2 ^ 16 - (1 * 2 ^ f) % 2 ^ 64 ≡ 2 ^ 16 - 2 ^ (w - min w n)) × (2 ^ 16 - (1 * 2 ^ f) % 2 ^ 64 < 2 ^ 16)
fixed-value w n f h e =
    let s = shifted_one f h in
    let d : f ≡ w - min w n = omega arith in
    (ap (λ x. 2 ^ 16 - x) s ∙ ap (λ x. 2 ^ 16 - 2 ^ x) d, omega (arith, s, pow_pos f))

-- ---- all four, by the depths at a place

-- what is free and what is fixed are all bits
free-sum : (w0 w1 w2 w3 n f0 f1 f2 f3 h0 h1 h2 h3 : ℕ)
    → f0 + h0 ≡ w0 → f1 + h1 ≡ w1 → f2 + h2 ≡ w2 → f3 + h3 ≡ w3 → n ≡ h0 + h1 + h2 + h3
    → f0 + f1 + f2 + f3 + n ≡ total (w0 ∷ w1 ∷ w2 ∷ w3 ∷ [])
free-sum w0 w1 w2 w3 n f0 f1 f2 f3 h0 h1 h2 h3 e0 e1 e2 e3 e = omega arith

pub free-le : (f0 f1 f2 f3 : ℕ) → f0 ≤ 16 → f1 ≤ 16 → f2 ≤ 16 → f3 ≤ 16 → f0 + f1 + f2 + f3 ≤ 64
free-le f0 f1 f2 f3 l0 l1 l2 l3 = omega arith

pub free_all : (w0 w1 w2 w3 g f0 f1 f2 f3 : ℕ) → g ≤ 64
    → f0 + min w0 ((g + 3 - 0) / 4) ≡ w0 → f1 + min w1 ((g + 3 - 1) / 4) ≡ w1
    → f2 + min w2 ((g + 3 - 2) / 4) ≡ w2 → f3 + min w3 ((g + 3 - 3) / 4) ≡ w3
    → f0 + f1 + f2 + f3 + length (steps_below (w0 ∷ w1 ∷ w2 ∷ w3 ∷ []) g) ≡ total (w0 ∷ w1 ∷ w2 ∷ w3 ∷ [])
free_all w0 w1 w2 w3 g f0 f1 f2 f3 l e0 e1 e2 e3 =
    free-sum w0 w1 w2 w3 _ f0 f1 f2 f3 _ _ _ _ e0 e1 e2 e3
    (steps_before-depths w0 w1 w2 w3 g _ _ _ _ l refl refl refl refl).before

-- the steps, where all bits but those are free
pub steps-rest : (f x n w : ℕ) {t : ℕ} → f + n ≡ w → f + x ≡ t → t ≡ w → n ≡ x
steps-rest f x n w e d h = omega arith

pub fixed_bits-values : (w0 w1 w2 w3 g m0 m1 m2 m3 : ℕ) → g ≤ 64
    → (m0 ≡ 2 ^ 16 - 2 ^ (w0 - min w0 ((g + 3 - 0) / 4))) × (m0 < 2 ^ 16)
    → (m1 ≡ 2 ^ 16 - 2 ^ (w1 - min w1 ((g + 3 - 1) / 4))) × (m1 < 2 ^ 16)
    → (m2 ≡ 2 ^ 16 - 2 ^ (w2 - min w2 ((g + 3 - 2) / 4))) × (m2 < 2 ^ 16)
    → (m3 ≡ 2 ^ 16 - 2 ^ (w3 - min w3 ((g + 3 - 3) / 4))) × (m3 < 2 ^ 16)
    → m0 + m1 * 2 ^ 16 % 2 ^ 64 + m2 * 2 ^ 32 % 2 ^ 64 + m3 * 2 ^ 48 % 2 ^ 64
    ≡ fixed_bits (w0 ∷ w1 ∷ w2 ∷ w3 ∷ []) (length (steps_below (w0 ∷ w1 ∷ w2 ∷ w3 ∷ []) g))
unfolding fixed_bits depth_before packed_key
fixed_bits-values w0 w1 w2 w3 g m0 m1 m2 m3 h e0 e1 e2 e3 =
    let ws = w0 ∷ w1 ∷ w2 ∷ w3 ∷ [] in
    let d0 = e0.0 ∙ ap (λ x. 2 ^ 16 - 2 ^ (w0 - x)) (sym (attribute_depth-place ws g 0 (omega arith) h)) in
    let d1 = e1.0 ∙ ap (λ x. 2 ^ 16 - 2 ^ (w1 - x)) (sym (attribute_depth-place ws g 1 (omega arith) h)) in
    let d2 = e2.0 ∙ ap (λ x. 2 ^ 16 - 2 ^ (w2 - x)) (sym (attribute_depth-place ws g 2 (omega arith) h)) in
    let d3 = e3.0 ∙ ap (λ x. 2 ^ 16 - 2 ^ (w3 - x)) (sym (attribute_depth-place ws g 3 (omega arith) h)) in
    sum ∙ (λ i. packed_key (d0 i ∷ d1 i ∷ d2 i ∷ d3 i ∷ []))
  where
    sum : m0 + m1 * 2 ^ 16 % 2 ^ 64 + m2 * 2 ^ 32 % 2 ^ 64 + m3 * 2 ^ 48 % 2 ^ 64
        ≡ packed_key (m0 ∷ m1 ∷ m2 ∷ m3 ∷ [])
    sum = omega (arith, e0.1, e1.1, e2.1, e3.1)

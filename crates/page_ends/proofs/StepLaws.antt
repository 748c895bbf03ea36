-- Laws of the mask of the fixed bits from one depth to the next: the bit of that step joins. Assumes nothing.
use Prim.Native.Nat.{ℕ, zero, suc, ◌+◌, ◌-◌, ◌*◌, ◌^◌, ◌≤◌, ◌<◌}
use mathlib.Core.Path.{◌≡◌, sym, ap, ◌∙◌}
use mathlib.Core.List.{List, [], ◌∷◌}
use native.Mathlib.Omega.{arith}
use native.Mathlib.Nat.{two-pow-succ}
use lib.ListN.{get_or}
use lib.Pow.{pow_mono}
use Rattle.shape.specs.Shape.{Fit}
use Rattle.split.specs.Steps.{step_number, attribute_depth}
use Rattle.split.proofs.DepthLaws.{attribute_depth-z, attribute_depth-next, attribute_depth-next-other}
use Rattle.record.specs.Packed.{packed_key}
use Rattle.page_ends.specs.Ends.{fixed_bits}

-- one bit more of a value
fixed-next : (w k : ℕ) → k < w → w ≤ 16 → 2 ^ 16 - 2 ^ (w - suc k) ≡ 2 ^ 16 - 2 ^ (w - k) + 2 ^ (w - suc k)
fixed-next w k h l =
    let e : w - k ≡ suc (w - suc k) = omega arith in
    let double = ap (λ n. 2 ^ n) e ∙ two-pow-succ (w - suc k) in
    omega (arith, double, pow_mono {i = w - k} {j = 16} (omega arith))

-- four values, one of which grows
packed_key-grown : (z : ℕ) → z < 4 → (f g : ℕ → ℕ) (d : ℕ) → g z ≡ f z + d
    → ((j : ℕ) → j < 4 → (j ≡ z → ⊥) → g j ≡ f j)
    → packed_key (g 0 ∷ g 1 ∷ g 2 ∷ g 3 ∷ []) ≡ packed_key (f 0 ∷ f 1 ∷ f 2 ∷ f 3 ∷ []) + d * 2 ^ (16 * z)
unfolding packed_key
packed_key-grown zero l f g d e h =
    let e1 = h 1 (omega arith) (λ x. omega arith) in
    let e2 = h 2 (omega arith) (λ x. omega arith) in
    let e3 = h 3 (omega arith) (λ x. omega arith) in
    omega arith
packed_key-grown (suc zero) l f g d e h =
    let e0 = h 0 (omega arith) (λ x. omega arith) in
    let e2 = h 2 (omega arith) (λ x. omega arith) in
    let e3 = h 3 (omega arith) (λ x. omega arith) in
    omega arith
packed_key-grown (suc (suc zero)) l f g d e h =
    let e0 = h 0 (omega arith) (λ x. omega arith) in
    let e1 = h 1 (omega arith) (λ x. omega arith) in
    let e3 = h 3 (omega arith) (λ x. omega arith) in
    omega arith
packed_key-grown (suc (suc (suc zero))) l f g d e h =
    let e0 = h 0 (omega arith) (λ x. omega arith) in
    let e1 = h 1 (omega arith) (λ x. omega arith) in
    let e2 = h 2 (omega arith) (λ x. omega arith) in
    omega arith
packed_key-grown (suc (suc (suc (suc z)))) l f g d e h = absurd (omega arith)

-- step x is bit k of attribute z
pub fixed_bits-suc : (ws : List ℕ) → Fit ws → (k z : ℕ) → z < 4 → k < get_or ws z 0 → (x : ℕ) → step_number ws k z ≡ x
    → fixed_bits ws (suc x) ≡ fixed_bits ws x + 2 ^ (get_or ws z 0 - suc k) * 2 ^ (16 * z)
unfolding fixed_bits
fixed_bits-suc ws fit k z hz hk x number =
    packed_key-grown z hz (λ j. 2 ^ 16 - 2 ^ (get_or ws j 0 - attribute_depth ws x j))
    (λ j. 2 ^ 16 - 2 ^ (get_or ws j 0 - attribute_depth ws (suc x) j)) (2 ^ (get_or ws z 0 - suc k))
    (ap (λ h. 2 ^ 16 - 2 ^ (get_or ws z 0 - h)) (attribute_depth-next ws fit k z hz hk number)
    ∙ fixed-next (get_or ws z 0) k hk (fit z)
    ∙ ap (λ h. 2 ^ 16 - 2 ^ (get_or ws z 0 - h) + 2 ^ (get_or ws z 0 - suc k))
    (sym (attribute_depth-z ws fit k z hz hk number)))
    (λ j l ne. ap (λ h. 2 ^ 16 - 2 ^ (get_or ws j 0 - h)) (attribute_depth-next-other ws fit k z hz hk number j l ne))

-- Laws of the shifts of a step: the address as a sum of shifted indices, and bounds. Assumes nothing.
use Prim.Native.Nat.{ℕ, zero, suc, ◌+◌, ◌*◌, ◌^◌, ◌≤◌, ◌<◌}
use mathlib.Core.Path.{◌≡◌, refl, sym, ap, ◌∙◌}
use mathlib.Core.List.{List, [], ◌∷◌}
use native.Mathlib.Omega.{arith}
use lib.Pow.{pow-add}
use lib.ListN.{get_or, length, set, drop}
use lib.Dec.{eqb}
use Rattle.lists.proofs.Bools.{cond_cases}
use Rattle.shape.specs.Shape.{Fit, total}
use Rattle.split.specs.Steps.{steps, step_number, bit_value, attribute_depth}
use Rattle.split.proofs.StepLaws.{depth_before}
use Rattle.split.proofs.DepthLaws.{attribute_depth-suc, step_of, step-here, attribute_depth-here, attribute_depth-z}
use Rattle.split.proofs.DepthLaws.{attribute_depth-sum}
use Rattle.address.specs.Address.{formula}
use Rattle.query_rows.specs.Rows.{attribute_depths, shift_of}
use Rattle.query_rows.proofs.LaneLaws.{four_numbers}

-- ---- the address as a sum of shifted indices

module _ (h0 h1 h2 h3 i0 i1 i2 i3 : ℕ) where
  abbrev shifted : ℕ → ℕ
  shifted z =
      (i0 * 2 ^ shift_of z (four_numbers h0 h1 h2 h3) 0 + i1 * 2 ^ shift_of z (four_numbers h0 h1 h2 h3) 1)
      + (i2 * 2 ^ shift_of z (four_numbers h0 h1 h2 h3) 2 + i3 * 2 ^ shift_of z (four_numbers h0 h1 h2 h3) 3)

  pub formula-shifted : (z : ℕ) → z < 4
      → formula z (four_numbers (2 ^ h0) (2 ^ h1) (2 ^ h2) (2 ^ h3)) (four_numbers i0 i1 i2 i3) ≡ shifted z
  unfolding formula shift_of
  formula-shifted zero h =
      let e0 : 0 + (h1 + (h2 + (h3 + 0))) ≡ h1 + (h2 + h3) = omega arith in
      let e1 : h2 + (h3 + 0) ≡ h2 + h3 = omega arith in
      let e2 : h3 + 0 ≡ h3 = omega arith in
      rw (e0, e1, e2, pow-add 2 h1 (h2 + h3), pow-add 2 h2 h3) (omega arith)
  formula-shifted (suc zero) h =
      let e1 : h0 + (0 + (h2 + (h3 + 0))) ≡ h0 + (h2 + h3) = omega arith in
      let e0 : 0 + (h2 + (h3 + 0)) ≡ h2 + h3 = omega arith in
      let e2 : h3 + 0 ≡ h3 = omega arith in
      rw (e1, e0, e2, pow-add 2 h0 (h2 + h3), pow-add 2 h2 h3) (omega arith)
  formula-shifted (suc (suc zero)) h =
      let e2 : h0 + (h1 + (0 + (h3 + 0))) ≡ h0 + (h1 + h3) = omega arith in
      let e0 : h1 + (0 + (h3 + 0)) ≡ h1 + h3 = omega arith in
      let e1 : 0 + (h3 + 0) ≡ h3 = omega arith in
      rw (e2, e0, e1, pow-add 2 h0 (h1 + h3), pow-add 2 h1 h3) (omega arith)
  formula-shifted (suc (suc (suc zero))) h =
      let e3 : h0 + (h1 + (h2 + (0 + 0))) ≡ h0 + (h1 + h2) = omega arith in
      let e0 : h1 + (h2 + (0 + 0)) ≡ h1 + h2 = omega arith in
      let e1 : h2 + (0 + 0) ≡ h2 = omega arith in
      rw (e3, e0, e1, pow-add 2 h0 (h1 + h2), pow-add 2 h1 h2) (omega arith)
  formula-shifted (suc (suc (suc (suc z)))) h = absurd (omega arith)

-- no shift passes the sum of the depths
total-set-le : (hs : List ℕ) (z : ℕ) → total (set hs z 0) ≤ total hs
total-set-le [] z = omega arith
total-set-le (h ∷ hs) zero = omega arith
total-set-le (h ∷ hs) (suc z) = omega (arith, total-set-le hs z)

total-drop-le : (hs : List ℕ) (j : ℕ) → total (drop j hs) ≤ total hs
total-drop-le hs zero = omega arith
total-drop-le [] (suc j) = omega arith
total-drop-le (h ∷ hs) (suc j) = omega (arith, total-drop-le hs j)

shift_of-le : (z : ℕ) (hs : List ℕ) (j : ℕ) → shift_of z hs j ≤ total hs
unfolding shift_of
shift_of-le z hs j =
    cond_cases (λ n. n ≤ total hs) (eqb j z) (total (set hs z 0)) (total (drop (suc j) (set hs z 0)))
    (λ e. total-set-le hs z) (λ e. omega (arith, total-set-le hs z, total-drop-le (set hs z 0) (suc j)))

-- which is the step's number
pub shift_of-step-le : (ws : List ℕ) → Fit ws → (t : ℕ) → t < length (steps ws) → (z j : ℕ)
    → shift_of z (attribute_depths ws t) j ≤ t
shift_of-step-le ws fit t h z j =
    let d = step_of ws t h in
    omega (arith, shift_of-le z (attribute_depths ws t) j, attribute_depth-sum ws fit d.0 d.1 d.2 d.3 d.4)

-- ---- the first index of a half, shifted as the second

-- by the depths before a step of attribute z
cross-le : (h0 h1 h2 h3 z : ℕ) → z < 4 → (z ≡ 1 → h0 ≤ suc h1) → (z ≡ 3 → h2 ≤ suc h3)
    → (h0 + bit_value (eqb z 0) + shift_of z (four_numbers h0 h1 h2 h3) 1 ≤ suc (h0 + h1 + h2 + h3))
    × (h2 + bit_value (eqb z 2) + shift_of z (four_numbers h0 h1 h2 h3) 3 ≤ suc (h0 + h1 + h2 + h3))
unfolding shift_of
cross-le h0 h1 h2 h3 zero h first third = (omega arith, omega arith)
cross-le h0 h1 h2 h3 (suc zero) h first third = (omega (arith, first refl), omega arith)
cross-le h0 h1 h2 h3 (suc (suc zero)) h first third = (omega arith, omega arith)
cross-le h0 h1 h2 h3 (suc (suc (suc zero))) h first third = (omega arith, omega (arith, third refl))
cross-le h0 h1 h2 h3 (suc (suc (suc (suc z)))) h first third = absurd (omega arith)

-- t is the number of the step (k, z)
module _ (ws : List ℕ) (fit : Fit ws) (t : ℕ) (l : t < length (steps ws)) (k z : ℕ) (hz : z < 4) (hk : k < get_or ws z 0)
    (number : step_number ws k z ≡ t) where
  -- attributes take turns
  turn : (r j : ℕ) → r < 4 → z ≡ j → attribute_depth ws t r ≤ suc (attribute_depth ws t j)
  unfolding depth_before
  turn r j h e =
      let here = ap (attribute_depth ws t) (sym e) ∙ attribute_depth-z ws fit k z hz hk number in
      omega (arith, attribute_depth-here ws fit k z hz hk number r h, here)

  next : (j : ℕ) → attribute_depth ws (suc t) j ≡ attribute_depth ws t j + bit_value (eqb z j)
  next j =
      attribute_depth-suc ws t l j
      ∙ ap (λ s. attribute_depth ws t j + bit_value (eqb s.attribute j)) (step-here ws fit k z hz hk number)

  -- it stays below bit t + 1
  pub shift_of-cross : (attribute_depth ws (suc t) 0 + shift_of z (attribute_depths ws t) 1 ≤ suc t)
      × (attribute_depth ws (suc t) 2 + shift_of z (attribute_depths ws t) 3 ≤ suc t)
  shift_of-cross =
      let cross = cross-le (attribute_depth ws t 0) (attribute_depth ws t 1) (attribute_depth ws t 2)
      (attribute_depth ws t 3) z hz (turn 0 1 (omega arith)) (turn 2 3 (omega arith)) in
      let sum = attribute_depth-sum ws fit k z hz hk number in
      (omega (arith, next 0, cross.0, sum), omega (arith, next 2, cross.1, sum))

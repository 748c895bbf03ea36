-- Laws of depths: just before a place; after t steps and after all; at a step and one step later; the bits below a
-- depth. Assumes nothing.
use Prim.Native.Nat.{ℕ, zero, suc, ◌+◌, ◌*◌, ◌≤◌, ◌<◌}
use mathlib.Core.Path.{◌≡◌, refl, sym, ap, ◌∙◌, subst}
use mathlib.Core.List.{List, [], ◌∷◌}
use mathlib.Core.Logic.{◌⊎◌, inl, inr}
use native.Mathlib.Omega.{arith}
use native.Mathlib.Nat.{le_trans}
use lib.Dec.{eqb}
use lib.ListN.{get_or, take, length}
use lib.Seq.{take-suc, take-length, take_all}
use borrow.Author.Tests.{eq-eqb, ne_eqb}
use Rattle.lists.proofs.Numbers.{lt-or-le}
use Rattle.shape.specs.Shape.{Fit}
use Rattle.split.specs.Steps.{Step, pair, steps_below, steps, step, step_number, bit_value, steps_of, attribute_depth}
use Rattle.split.proofs.StepLaws.{depth_before, steps_of-append, steps_of-steps_below, length-steps_below}
use Rattle.split.proofs.StepLaws.{step-step_number, attribute_depth-step_number, step_number-lt}
use Rattle.split.proofs.StepLaws.{StepBelow, step_number-onto}

-- ---- just before a place

pub depth_before-width : (ws : List ℕ) (g j : ℕ) → depth_before ws g j ≤ get_or ws j 0
unfolding depth_before
depth_before-width ws g j = omega arith

pub depth_before-le : (ws : List ℕ) (g j : ℕ) → get_or ws j 0 ≤ 16 → depth_before ws g j ≤ 16
depth_before-le ws g j h = omega (arith, depth_before-width ws g j)

depth_before-sixteen : (ws : List ℕ) (j : ℕ) → j < 4 → depth_before ws 64 j ≤ 16
unfolding depth_before
depth_before-sixteen ws j h = omega arith

pub length-steps-le : (ws : List ℕ) → length (steps ws) ≤ 64
unfolding steps
length-steps-le ws =
    omega (
      arith,
      length-steps_below ws 64,
      depth_before-sixteen ws 0 (omega arith),
      depth_before-sixteen ws 1 (omega arith),
      depth_before-sixteen ws 2 (omega arith),
      depth_before-sixteen ws 3 (omega arith),
    )

-- ---- after t steps

steps_of-take : (j t u : ℕ) → t ≤ u → (ss : List Step) → steps_of j (take t ss) ≤ steps_of j (take u ss)
unfolding steps_of
steps_of-take j zero u h ss = omega arith
steps_of-take j (suc t) zero h ss = absurd (omega arith)
steps_of-take j (suc t) (suc u) h [] = omega arith
steps_of-take j (suc t) (suc u) h (s ∷ ss) = omega (arith, steps_of-take j t u (omega arith) ss)

pub attribute_depth-suc : (ws : List ℕ) (t : ℕ) → t < length (steps ws) → (j : ℕ)
    → attribute_depth ws (suc t) j ≡ attribute_depth ws t j + bit_value (eqb (step ws t).attribute j)
unfolding attribute_depth step steps_of
attribute_depth-suc ws t h j =
    ap (steps_of j) (take-suc (steps ws) t (pair 0) h)
    ∙ steps_of-append j (take t (steps ws)) (get_or (steps ws) t (pair 0) ∷ [])
    ∙ omega arith

pub attribute_depth-mono : (ws : List ℕ) (j t u : ℕ) → t ≤ u → attribute_depth ws t j ≤ attribute_depth ws u j
unfolding attribute_depth
attribute_depth-mono ws j t u h = steps_of-take j t u h (steps ws)

pub attribute_depth-width : (ws : List ℕ) (j t : ℕ) → j < 4 → attribute_depth ws t j ≤ get_or ws j 0
unfolding attribute_depth steps
attribute_depth-width ws j t h =
    let u = t + length (steps ws) in
    let all : take u (steps ws) ≡ steps ws = take_all u (steps ws) (omega arith) in
    omega (
      arith,
      steps_of-take j t u (omega arith) (steps ws),
      ap (steps_of j) all,
      steps_of-steps_below ws j h 64,
      depth_before-width ws 64 j,
    )

-- after all steps each attribute has its whole width
pub attribute_depth-all : (ws : List ℕ) → Fit ws → (j : ℕ) → j < 4
    → attribute_depth ws (length (steps ws)) j ≡ get_or ws j 0
unfolding attribute_depth steps depth_before
attribute_depth-all ws fit j h =
    ap (steps_of j) (take-length (steps_below ws 64)) ∙ steps_of-steps_below ws j h 64 ∙ omega (arith, fit j)

-- ---- at a step

-- each number below W is a step's
pub step_of : (ws : List ℕ) (t : ℕ) → t < length (steps ws) → StepBelow ws t 64
unfolding steps
step_of ws t h = step_number-onto ws t 64 h

module _ (ws : List ℕ) (fit : Fit ws) (k z : ℕ) (hz : z < 4) (hk : k < get_or ws z 0) where
  pub step_number-below : step_number ws k z < length (steps ws)
  unfolding step_number steps
  step_number-below = step_number-lt ws k z hz hk 16 0 (omega (arith, fit z))

  -- t is the number of (k, z)
  module _ {t : ℕ} (number : step_number ws k z ≡ t) where
    pub step-here : step ws t ≡ record { bit = k; attribute = z }
    step-here =
        subst (λ u. step ws u ≡ record { bit = k; attribute = z }) number (step-step_number ws k z hz hk (fit z))

    pub attribute_depth-here : (j : ℕ) → j < 4 → attribute_depth ws t j ≡ depth_before ws (4 * k + z) j
    attribute_depth-here j hj =
        subst (λ u. attribute_depth ws u j ≡ depth_before ws (4 * k + z) j) number
        (attribute_depth-step_number ws k z hz hk (fit z) j hj)

    pub attribute_depth-z : attribute_depth ws t z ≡ k
    unfolding depth_before
    attribute_depth-z = attribute_depth-here z hz ∙ omega arith

    -- the depths add up to the number of steps
    pub attribute_depth-sum :
        attribute_depth ws t 0 + attribute_depth ws t 1 + attribute_depth ws t 2 + attribute_depth ws t 3 ≡ t
    unfolding step_number
    attribute_depth-sum =
        cc (
          number,
          attribute_depth-here 0 (omega arith),
          attribute_depth-here 1 (omega arith),
          attribute_depth-here 2 (omega arith),
          attribute_depth-here 3 (omega arith),
          length-steps_below ws (4 * k + z),
        )

    -- one step later attribute z is one deeper, and the others are as they were
    suc-here : (j : ℕ) → attribute_depth ws (suc t) j ≡ attribute_depth ws t j + bit_value (eqb z j)
    suc-here j =
        attribute_depth-suc ws t (subst (λ u. u < length (steps ws)) number step_number-below) j
        ∙ ap (λ s. attribute_depth ws t j + bit_value (eqb s.attribute j)) step-here

    pub attribute_depth-next : attribute_depth ws (suc t) z ≡ suc k
    attribute_depth-next = suc-here z ∙ omega (arith, attribute_depth-z, ap bit_value (eq-eqb z z refl))

    pub attribute_depth-next-other : (j : ℕ) → j < 4 → (j ≡ z → ⊥) → attribute_depth ws (suc t) j ≡ attribute_depth ws t j
    attribute_depth-next-other j hj ne = suc-here j ∙ omega (arith, ap bit_value (ne_eqb z j (λ e. ne (sym e))))

-- ---- after t steps the bits below the depth are those whose step is below t

module _ (ws : List ℕ) (fit : Fit ws) (t k j : ℕ) (hj : j < 4) where
  pub lt-attribute_depth : k < get_or ws j 0 → step_number ws k j < t → k < attribute_depth ws t j
  lt-attribute_depth hk h =
      omega (
        arith,
        attribute_depth-next ws fit k j hj hk refl,
        attribute_depth-mono ws j (suc (step_number ws k j)) t h,
      )

  pub step_number-lt-attribute_depth : k < attribute_depth ws t j → step_number ws k j < t
  step_number-lt-attribute_depth h = go (lt-or-le (step_number ws k j) t)
    where
      go : (step_number ws k j < t) ⊎ (t ≤ step_number ws k j) → step_number ws k j < t
      go (inl l) = l
      go (inr l) =
          let hk : k < get_or ws j 0 = le_trans h (attribute_depth-width ws j t hj) in
          let here = attribute_depth-z ws fit k j hj hk refl in
          absurd (omega (arith, here, attribute_depth-mono ws j t (step_number ws k j) l))

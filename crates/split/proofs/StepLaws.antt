-- Laws of split steps: how many stand before a place, by attribute and in all; the steps before a pair begin the list
-- of all; each number is a pair's. Assumes nothing.
use Prim.Native.Nat.{ℕ, zero, suc, ◌+◌, ◌*◌, ◌/◌, ◌%◌, ◌-◌, ◌≤◌, ◌<◌, min}
use mathlib.Core.Path.{◌≡◌, refl, sym, ap, ◌∙◌, subst}
use mathlib.Core.Bool.{Bool, true, false, cond}
use mathlib.Core.List.{List, [], ◌∷◌, ◌++◌, append_assoc, append-nil}
use mathlib.Core.Logic.{◌⊎◌, inl, inr}
use native.Mathlib.Omega.{arith}
use lib.Dec.{ltb, eqb}
use lib.ListN.{get_or, take, length, length-append, get_or-append}
use lib.Seq.{take-append_seam, get_or-append_seam, get_or-append-add}
use borrow.Author.Tests.{lt-ltb, le-ltb, eq-eqb, ne_eqb}
use Rattle.lists.proofs.Numbers.{lt-or-le, eq-or-ne}
use Rattle.shape.specs.Shape.{Fit, total}
use Rattle.split.specs.Steps.{Step, pair, steps_below, steps, step, step_number, bit_value, steps_of, attribute_depth}

-- ---- the steps of one attribute before a place

-- the depth of attribute j just before place g, in closed form
unfoldable pub depth_before : List ℕ → ℕ → ℕ → ℕ
depth_before ws g j = min (get_or ws j 0) ((g + 3 - j) / 4)

-- the pair at place g, if it is a step
abbrev step_at : List ℕ → ℕ → List Step
step_at ws g = cond (ltb (g / 4) (get_or ws (g % 4) 0)) (pair g ∷ []) []

pub steps_of-append : (j : ℕ) (a b : List Step) → steps_of j (a ++ b) ≡ steps_of j a + steps_of j b
unfolding steps_of
steps_of-append j [] b = omega arith
steps_of-append j (s ∷ a) b = omega (arith, steps_of-append j a b)

place_same : (g j : ℕ) → g % 4 ≡ j → ((g + 3 - j) / 4 ≡ g / 4) × ((suc g + 3 - j) / 4 ≡ suc (g / 4))
place_same g j e = (omega arith, omega arith)

place_other : (g j : ℕ) → j < 4 → (g % 4 ≡ j → ⊥) → (suc g + 3 - j) / 4 ≡ (g + 3 - j) / 4
place_other g j h e = omega arith

steps_of-step_at : (ws : List ℕ) (g j : ℕ) → j < 4
    → steps_of j (step_at ws g) + depth_before ws g j ≡ depth_before ws (suc g) j
unfolding steps_of depth_before
steps_of-step_at ws g j h = go (eq-or-ne (g % 4) j) (lt-or-le (g / 4) (get_or ws (g % 4) 0))
  where
    go : (g % 4 ≡ j) ⊎ (g % 4 ≡ j → ⊥) → (g / 4 < get_or ws (g % 4) 0) ⊎ (get_or ws (g % 4) 0 ≤ g / 4)
        → steps_of j (step_at ws g) + depth_before ws g j ≡ depth_before ws (suc g) j
    go (inl e) (inl l) =
        rw (lt-ltb _ _ l, eq-eqb (g % 4) j e) (omega (arith, place_same g j e, ap (λ x. get_or ws x 0) e))
    go (inl e) (inr l) = rw (le-ltb _ _ l) (omega (arith, place_same g j e, ap (λ x. get_or ws x 0) e))
    go (inr e) (inl l) = rw (lt-ltb _ _ l, ne_eqb (g % 4) j e) (omega (arith, place_other g j h e))
    go (inr e) (inr l) = rw (le-ltb _ _ l) (omega (arith, place_other g j h e))

pub steps_of-steps_below : (ws : List ℕ) (j : ℕ) → j < 4 → (g : ℕ) → steps_of j (steps_below ws g) ≡ depth_before ws g j
unfolding steps_of steps_below depth_before
steps_of-steps_below ws j h zero = omega arith
steps_of-steps_below ws j h (suc g) =
    steps_of-append j (steps_below ws g) (step_at ws g)
    ∙ omega (arith, steps_of-steps_below ws j h g, steps_of-step_at ws g j h)

-- ---- all steps before a place

bit_value-four : (r : ℕ) → r < 4
    → 1 ≡ bit_value (eqb r 0) + bit_value (eqb r 1) + bit_value (eqb r 2) + bit_value (eqb r 3)
bit_value-four zero h = refl
bit_value-four (suc zero) h = refl
bit_value-four (suc (suc zero)) h = refl
bit_value-four (suc (suc (suc zero))) h = refl
bit_value-four (suc (suc (suc (suc r)))) h = omega arith

-- each step is of one of the four attributes
abbrev ByAttribute : List Step → Type 0
ByAttribute ss = length ss ≡ steps_of 0 ss + steps_of 1 ss + steps_of 2 ss + steps_of 3 ss

length-step_at : (ws : List ℕ) (g : ℕ) → ByAttribute (step_at ws g)
unfolding steps_of
length-step_at ws g = go (ltb (g / 4) (get_or ws (g % 4) 0))
  where
    go : (b : Bool) → ByAttribute (cond b (pair g ∷ []) [])
    go true = omega (arith, bit_value-four (g % 4) (omega arith))
    go false = refl

length-by-attribute : (ws : List ℕ) (g : ℕ) → ByAttribute (steps_below ws g)
unfolding steps_of steps_below
length-by-attribute ws zero = refl
length-by-attribute ws (suc g) =
    length-append (steps_below ws g) (step_at ws g)
    ∙ omega (
      arith,
      length-by-attribute ws g,
      length-step_at ws g,
      steps_of-append 0 (steps_below ws g) (step_at ws g),
      steps_of-append 1 (steps_below ws g) (step_at ws g),
      steps_of-append 2 (steps_below ws g) (step_at ws g),
      steps_of-append 3 (steps_below ws g) (step_at ws g),
    )

pub length-steps_below : (ws : List ℕ) (g : ℕ)
    → length (steps_below ws g) ≡ depth_before ws g 0 + depth_before ws g 1 + depth_before ws g 2 + depth_before ws g 3
length-steps_below ws g =
    length-by-attribute ws g
    ∙ cc (
      steps_of-steps_below ws 0 (omega arith) g,
      steps_of-steps_below ws 1 (omega arith) g,
      steps_of-steps_below ws 2 (omega arith) g,
      steps_of-steps_below ws 3 (omega arith) g,
    )

pub length-steps : (w0 w1 w2 w3 : ℕ) → Fit (w0 ∷ w1 ∷ w2 ∷ w3 ∷ [])
    → length (steps (w0 ∷ w1 ∷ w2 ∷ w3 ∷ [])) ≡ total (w0 ∷ w1 ∷ w2 ∷ w3 ∷ [])
unfolding steps depth_before
length-steps w0 w1 w2 w3 fit =
    length-steps_below (w0 ∷ w1 ∷ w2 ∷ w3 ∷ []) 64 ∙ omega (arith, fit 0, fit 1, fit 2, fit 3)

-- one place more
module _ (ws : List ℕ) (g : ℕ) where
  steps_below-step : g / 4 < get_or ws (g % 4) 0 → steps_below ws (suc g) ≡ steps_below ws g ++ (pair g ∷ [])
  unfolding steps_below
  steps_below-step l = rw (lt-ltb _ _ l)

  pub length-steps_below-step : g / 4 < get_or ws (g % 4) 0
      → length (steps_below ws (suc g)) ≡ suc (length (steps_below ws g))
  length-steps_below-step l =
      ap length (steps_below-step l) ∙ length-append (steps_below ws g) (pair g ∷ []) ∙ omega arith

  pub length-steps_below-skip : get_or ws (g % 4) 0 ≤ g / 4 → length (steps_below ws (suc g)) ≡ length (steps_below ws g)
  unfolding steps_below
  length-steps_below-skip l = rw (le-ltb _ _ l, append-nil)

-- ---- the steps before a pair begin the list of all

pub steps_below-prefix : (ws : List ℕ) (g G : ℕ) → g ≤ G
    → (rest : List Step) × (steps_below ws G ≡ steps_below ws g ++ rest)
unfolding steps_below
steps_below-prefix ws g zero h =
    let e : zero ≡ g = omega arith in
    ([], ap (steps_below ws) e ∙ sym (append-nil (steps_below ws g)))
steps_below-prefix ws g (suc G) h = go (lt-or-le G g) (steps_below-prefix ws g G)
  where
    go : (G < g) ⊎ (g ≤ G) → (g ≤ G → (rest : List Step) × (steps_below ws G ≡ steps_below ws g ++ rest))
        → (rest : List Step) × (steps_below ws (suc G) ≡ steps_below ws g ++ rest)
    go (inl l) ih =
        let e : suc G ≡ g = omega arith in
        ([], ap (steps_below ws) e ∙ sym (append-nil (steps_below ws g)))
    go (inr l) ih = (
      (ih l).0 ++ step_at ws G,
      ap (λ x. x ++ step_at ws G) (ih l).1 ∙ append_assoc (steps_below ws g) (ih l).0 (step_at ws G),
    )

pub pair_place : (k j : ℕ) → j < 4 → pair (4 * k + j) ≡ record { bit = k; attribute = j }
pair_place k j h = λ i. record { bit = p i; attribute = q i }
  where
    p : (4 * k + j) / 4 ≡ k
    p = omega arith

    q : (4 * k + j) % 4 ≡ j
    q = omega arith

module _ (ws : List ℕ) (k j : ℕ) (hj : j < 4) (hk : k < get_or ws j 0) where
  live : (4 * k + j) / 4 < get_or ws ((4 * k + j) % 4) 0
  live =
      let d : k ≡ (4 * k + j) / 4 = omega arith in
      let m : j ≡ (4 * k + j) % 4 = omega arith in
      subst (λ x. x < get_or ws ((4 * k + j) % 4) 0) d (subst (λ x. k < get_or ws x 0) m hk)

  steps-prefix : get_or ws j 0 ≤ 16
      → (rest : List Step) × (steps ws ≡ steps_below ws (4 * k + j) ++ (record { bit = k; attribute = j } ∷ rest))
  unfolding steps
  steps-prefix f =
      let p = steps_below-prefix ws (suc (4 * k + j)) 64 (omega arith) in (
        p.0,
        p.1
            ∙ ap (λ x. x ++ p.0) (steps_below-step ws (4 * k + j) live)
            ∙ append_assoc (steps_below ws (4 * k + j)) (pair (4 * k + j) ∷ []) p.0
            ∙ ap (λ s. steps_below ws (4 * k + j) ++ (s ∷ p.0)) (pair_place k j hj),
      )

  -- the step with the number of (k, j) is (k, j)
  pub step-step_number : get_or ws j 0 ≤ 16 → step ws (step_number ws k j) ≡ record { bit = k; attribute = j }
  unfolding step step_number
  step-step_number f =
      let p = steps-prefix f in
      ap (λ x. get_or x (length (steps_below ws (4 * k + j))) (pair 0)) p.1
      ∙ get_or-append_seam (steps_below ws (4 * k + j)) _ p.0 (pair 0)

  -- the depths just before (k, j)
  pub attribute_depth-step_number : get_or ws j 0 ≤ 16 → (r : ℕ) → r < 4
      → attribute_depth ws (step_number ws k j) r ≡ depth_before ws (4 * k + j) r
  unfolding attribute_depth step_number
  attribute_depth-step_number f r hr =
      let p = steps-prefix f in
      ap (λ x. steps_of r (take (length (steps_below ws (4 * k + j))) x)) p.1
      ∙ ap (steps_of r) (take-append_seam (steps_below ws (4 * k + j)) _)
      ∙ steps_of-steps_below ws r hr (4 * k + j)

  -- an earlier step has a smaller number
  pub step_number-lt : (m i : ℕ) → 4 * k + j < 4 * m + i → step_number ws k j < step_number ws m i
  unfolding step_number
  step_number-lt m i h =
      let p = steps_below-prefix ws (suc (4 * k + j)) (4 * m + i) (omega arith) in
      omega (
        arith,
        ap length p.1,
        length-append (steps_below ws (suc (4 * k + j))) p.0,
        length-steps_below-step ws (4 * k + j) live,
      )

-- ---- each number is a pair's

-- a step with the number t, at a place below g
abbrev pub StepBelow : List ℕ → ℕ → ℕ → Type 0
StepBelow ws t g = (k : ℕ) × (j : ℕ) × (j < 4) × (k < get_or ws j 0) × (step_number ws k j ≡ t) × (4 * k + j < g)

pub step_number-onto : (ws : List ℕ) (t g : ℕ) → t < length (steps_below ws g) → StepBelow ws t g
unfolding steps_below step_number
step_number-onto ws t zero h = absurd (omega arith)
step_number-onto ws t (suc g) h =
    go (lt-or-le t (length (steps_below ws g))) (lt-or-le (g / 4) (get_or ws (g % 4) 0)) (step_number-onto ws t g)
  where
    go : (t < length (steps_below ws g)) ⊎ (length (steps_below ws g) ≤ t)
        → (g / 4 < get_or ws (g % 4) 0) ⊎ (get_or ws (g % 4) 0 ≤ g / 4)
        → (t < length (steps_below ws g) → StepBelow ws t g) → StepBelow ws t (suc g)
    go (inl l) d ih = let r = ih l in (r.0, r.1, r.2, r.3, r.4, omega arith)
    go (inr l) (inl d) ih =
        let e : 4 * (g / 4) + g % 4 ≡ g = omega arith in
        let n : length (steps_below ws g) ≡ t = omega (arith, length-steps_below-step ws g d) in
        (g / 4, g % 4, omega arith, d, ap (λ x. length (steps_below ws x)) e ∙ n, omega arith)
    go (inr l) (inr d) ih = absurd (omega (arith, length-steps_below-skip ws g d))

-- ---- attributes

-- "j from 0 to d−1", and d is at most 4
attribute-of : (g : ℕ) (b : Bool) (n : ℕ) → (get_or (cond b (pair g ∷ []) []) n (pair 0)).attribute < 4
attribute-of g true zero = omega arith
attribute-of g true (suc n) = omega arith
attribute-of g false n = omega arith

attribute-below : (ws : List ℕ) (g t : ℕ) → (get_or (steps_below ws g) t (pair 0)).attribute < 4
unfolding steps_below
attribute-below ws zero t = omega arith
attribute-below ws (suc g) t = go (lt-or-le t (length (steps_below ws g))) (attribute-below ws g t)
  where
    here : Bool
    here = ltb (g / 4) (get_or ws (g % 4) 0)

    go : (t < length (steps_below ws g)) ⊎ (length (steps_below ws g) ≤ t)
        → (get_or (steps_below ws g) t (pair 0)).attribute < 4
        → (get_or (steps_below ws g ++ cond here (pair g ∷ []) []) t (pair 0)).attribute < 4
    go (inl l) before =
        subst (λ x. x.attribute < 4)
        (sym (get_or-append (steps_below ws g) (cond here (pair g ∷ []) []) (pair 0) t l)) before
    go (inr l) before =
        let n = t - length (steps_below ws g) in
        let e : length (steps_below ws g) + n ≡ t = omega arith in
        subst (λ x. x.attribute < 4)
        (sym (get_or-append-add (steps_below ws g) (cond here (pair g ∷ []) []) n (pair 0))
        ∙ ap (λ k. get_or (steps_below ws g ++ cond here (pair g ∷ []) []) k (pair 0)) e) (attribute-of g here n)

pub step-attribute-lt : (ws : List ℕ) (t : ℕ) → (step ws t).attribute < 4
unfolding step steps
step-attribute-lt ws t = attribute-below ws 64 t

-- Laws of places: how many steps stand before a place, the search for a step, the depths there. Assumes nothing.
use Prim.Native.Nat.{ℕ, ◌+◌, ◌*◌, ◌/◌, ◌%◌, ◌≤◌, ◌<◌, min}
use mathlib.Core.Path.{◌≡◌, refl, sym, ap, ◌∙◌, subst}
use mathlib.Core.Bool.{true}
use mathlib.Core.List.{List, [], ◌∷◌}
use mathlib.Core.Logic.{◌⊎◌, inl, inr}
use native.Mathlib.Omega.{arith}
use native.Mathlib.Nat.{le_trans, le_of_eq, add-le-add}
use native.Mathlib.Numerals.{add-one}
use lib.Dec.{eqb}
use lib.ListN.{get_or, take, length}
use lib.Seq.{take-append_seam}
use borrow.Author.Tests.{eqb-true}
use Rattle.lists.proofs.Numbers.{lt-or-le}
use Rattle.shape.specs.Shape.{Fit, total, all_below}
use Rattle.split.specs.Steps.{steps_below, steps, step_number, steps_of, attribute_depth}
use Rattle.split.proofs.StepLaws.{depth_before, steps_of-steps_below, length-steps_below, length-steps}
use Rattle.split.proofs.StepLaws.{length-steps_below-step, length-steps_below-skip, steps_below-prefix}
use Rattle.split.specs.Bits.{split_bit}
use Rattle.split.proofs.DepthLaws.{step_number-below}
use Rattle.split.proofs.BitLaws.{split_bit-step_number}
use Rattle.pairs.specs.Pairs.{IsStep, bits_before, pair_bit, StepsBefore, StepPair}
use Rattle.shape.proofs.BoundsLaws.{test-of-all_below}

-- ---- the search

pub steps_before-zero : (ws : List ℕ) → StepsBefore ws 0 0
unfolding steps_below
steps_before-zero ws = record { low = omega arith; before = refl }

module _ (ws : List ℕ) (t g : ℕ) (b : StepsBefore ws t g) (next : g < 64) where
  -- a step
  pub steps_before-step : IsStep ws g → StepsBefore ws (t + 1) (g + 1)
  steps_before-step l = record {
    low = omega arith;
    before = omega (arith, b.before, length-steps_below-step ws g l, ap (λ x. length (steps_below ws x)) (add-one g));
  }

  -- no step
  pub steps_before-skip : get_or ws (g % 4) 0 ≤ g / 4 → StepsBefore ws t (g + 1)
  steps_before-skip l = record {
    low = omega arith;
    before = omega (arith, b.before, length-steps_below-skip ws g l, ap (λ x. length (steps_below ws x)) (add-one g));
  }

-- a step is left: the search ends before the pairs do
pub steps_before-lt : (w0 w1 w2 w3 t g : ℕ) → Fit (w0 ∷ w1 ∷ w2 ∷ w3 ∷ []) → t < total (w0 ∷ w1 ∷ w2 ∷ w3 ∷ [])
    → StepsBefore (w0 ∷ w1 ∷ w2 ∷ w3 ∷ []) t g → g < 64
unfolding steps
steps_before-lt w0 w1 w2 w3 t g fit l b = go (lt-or-le g 64)
  where
    go : (g < 64) ⊎ (64 ≤ g) → g < 64
    go (inl h) = h
    go (inr h) =
        let e : g ≡ 64 = omega (arith, b.low) in
        let ws = w0 ∷ w1 ∷ w2 ∷ w3 ∷ [] in
        absurd (omega (arith, b.before, ap (λ x. length (steps_below ws x)) e, length-steps w0 w1 w2 w3 fit))

-- the depths at a place add up
pub steps_before-depths : (w0 w1 w2 w3 g h0 h1 h2 h3 : ℕ) → g ≤ 64
    → h0 ≡ min w0 (bits_before g 0) → h1 ≡ min w1 (bits_before g 1)
    → h2 ≡ min w2 (bits_before g 2) → h3 ≡ min w3 (bits_before g 3)
    → StepsBefore (w0 ∷ w1 ∷ w2 ∷ w3 ∷ []) (h0 + h1 + h2 + h3) g
unfolding depth_before
steps_before-depths w0 w1 w2 w3 g h0 h1 h2 h3 l e0 e1 e2 e3 =
    record { low = l; before = length-steps_below (w0 ∷ w1 ∷ w2 ∷ w3 ∷ []) g ∙ rw (e0, e1, e2, e3) }

-- a place among the first sixteen is before the fifth bit of each attribute
pub depth-few : (w g j h : ℕ) → g ≤ 16 → h ≡ min w (bits_before g j) → h ≤ 4
depth-few w g j h l e = omega arith

-- ---- where the attributes in use take turns, no more than t steps are before the place

module _ (w0 w1 w2 w3 g : ℕ) where
  -- of each attribute at most the bits whose turn has come
  steps-le : (t b0 b1 b2 b3 : ℕ) → min w0 (bits_before g 0) ≤ b0 → min w1 (bits_before g 1) ≤ b1
      → min w2 (bits_before g 2) ≤ b2 → min w3 (bits_before g 3) ≤ b3 → b0 + b1 + b2 + b3 ≤ t
      → length (steps_below (w0 ∷ w1 ∷ w2 ∷ w3 ∷ []) g) ≤ t
  unfolding depth_before
  steps-le t b0 b1 b2 b3 l0 l1 l2 l3 h =
      le_trans (le_of_eq (length-steps_below (w0 ∷ w1 ∷ w2 ∷ w3 ∷ []) g))
      (le_trans (add-le-add (add-le-add (add-le-add l0 l1) l2) l3) h)

pub steps-four : (w0 w1 w2 w3 t : ℕ) → length (steps_below (w0 ∷ w1 ∷ w2 ∷ w3 ∷ []) t) ≤ t
steps-four w0 w1 w2 w3 t =
    steps-le w0 w1 w2 w3 t t ((t + 3) / 4) ((t + 2) / 4) ((t + 1) / 4) (t / 4) (omega arith) (omega arith) (omega arith)
    (omega arith) (omega arith)

-- 4t/3 by a product, up to 48
all-thirds : all_below 49 (λ t. eqb (t + t / 3) (t * 171 / 128)) ≡ true
all-thirds = refl

thirds : (t : ℕ) → t ≤ 48 → t + t / 3 ≡ t * 171 / 128
thirds t l =
    eqb-true (t + t / 3) (t * 171 / 128)
    (test-of-all_below (λ t. eqb (t + t / 3) (t * 171 / 128)) 49 t all-thirds (omega arith))

steps-turns : (w0 w1 w2 w3 t : ℕ) → w3 ≡ 0 → length (steps_below (w0 ∷ w1 ∷ w2 ∷ w3 ∷ []) (t + t / 3)) ≤ t
steps-turns w0 w1 w2 w3 t e =
    let g = t + t / 3 in
    steps-le w0 w1 w2 w3 g t ((g + 3) / 4) ((g + 2) / 4) ((g + 1) / 4) 0 (omega arith) (omega arith) (omega arith)
    (omega arith) (omega arith)

pub steps-three : (w0 w1 w2 w3 t : ℕ) → w3 ≡ 0 → t ≤ 48
    → length (steps_below (w0 ∷ w1 ∷ w2 ∷ w3 ∷ []) (t * 171 / 128)) ≤ t
steps-three w0 w1 w2 w3 t e l =
    subst (λ n. length (steps_below (w0 ∷ w1 ∷ w2 ∷ w3 ∷ []) n) ≤ t) (thirds t l) (steps-turns w0 w1 w2 w3 t e)

pub steps-two : (w0 w1 w2 w3 t : ℕ) → w2 ≡ 0 → w3 ≡ 0
    → length (steps_below (w0 ∷ w1 ∷ w2 ∷ w3 ∷ []) (t + t / 2 * 2)) ≤ t
steps-two w0 w1 w2 w3 t d e =
    let g = t + t / 2 * 2 in
    steps-le w0 w1 w2 w3 g t ((g + 3) / 4) ((g + 2) / 4) 0 0 (omega arith) (omega arith) (omega arith) (omega arith)
    (omega arith)

pub steps-one : (w0 w1 w2 w3 t : ℕ) → w1 ≡ 0 → w2 ≡ 0 → w3 ≡ 0
    → length (steps_below (w0 ∷ w1 ∷ w2 ∷ w3 ∷ []) (4 * t)) ≤ t
steps-one w0 w1 w2 w3 t c d e =
    steps-le w0 w1 w2 w3 (4 * t) t t 0 0 0 (omega arith) (omega arith) (omega arith) (omega arith) (omega arith)

-- ---- a place and its step

pub step_number-place : (ws : List ℕ) (g : ℕ) → step_number ws (g / 4) (g % 4) ≡ length (steps_below ws g)
unfolding step_number
step_number-place ws g = let e : 4 * (g / 4) + g % 4 ≡ g = omega arith in ap (λ x. length (steps_below ws x)) e

module _ (ws : List ℕ) (fit : Fit ws) where
  -- the split bit of a key at the step of a place
  pub split_bit-place : (key : List ℕ) (g : ℕ) → IsStep ws g
      → split_bit ws key (length (steps_below ws g)) ≡ pair_bit ws key g
  split_bit-place key g h =
      ap (split_bit ws key) (sym (step_number-place ws g))
      ∙ split_bit-step_number ws fit key (g / 4) (g % 4) (omega arith) h

  pub steps_below-lt : (g : ℕ) → IsStep ws g → length (steps_below ws g) < length (steps ws)
  steps_below-lt g h =
      subst (λ t. t < length (steps ws)) (step_number-place ws g)
      (step_number-below ws fit (g / 4) (g % 4) (omega arith) h)

module _ (ws : List ℕ) (t g : ℕ) (s : StepPair ws t g) where
  pub step_number-pair : step_number ws (g / 4) (g % 4) ≡ t
  step_number-pair = step_number-place ws g ∙ s.before

  pub step_pair-lt : Fit ws → t < length (steps ws)
  step_pair-lt fit = subst (λ x. x < length (steps ws)) s.before (steps_below-lt ws fit g s.live)

  pub steps_before-pair : StepsBefore ws (t + 1) (g + 1)
  steps_before-pair =
      let low : g ≤ 64 = omega (arith, s.low) in
      steps_before-step ws t g (record { low = low; before = s.before }) s.low s.live

-- ---- the depths at a place

pub attribute_depth-place : (ws : List ℕ) (g j : ℕ) → j < 4 → g ≤ 64
    → attribute_depth ws (length (steps_below ws g)) j ≡ depth_before ws g j
unfolding attribute_depth steps
attribute_depth-place ws g j hj h =
    let p = steps_below-prefix ws g 64 h in
    ap (λ s. steps_of j (take (length (steps_below ws g)) s)) p.1
    ∙ ap (steps_of j) (take-append_seam (steps_below ws g) p.0)
    ∙ steps_of-steps_below ws j hj g

-- Laws of the sides 2^h_j: each side, their product, those but one; the box at t as a claim on each index.
-- Assumes nothing.
use Prim.Native.Nat.{ℕ, zero, suc, ◌+◌, ◌*◌, ◌^◌, ◌≤◌, ◌<◌}
use mathlib.Core.Path.{◌≡◌, refl, sym, ap, ◌∙◌, subst}
use mathlib.Core.List.{List, [], ◌∷◌}
use native.Mathlib.Omega.{arith}
use native.Mathlib.Nat.{le_trans}
use lib.Pow.{pow-add, pow_mono}
use lib.ListN.{get_or, length}
use Rattle.shape.specs.Shape.{Fit}
use Rattle.split.specs.Steps.{steps, step_number, attribute_depth}
use Rattle.split.proofs.StepLaws.{depth_before, attribute_depth-step_number}
use Rattle.split.proofs.DepthLaws.{attribute_depth-mono, attribute_depth-all, attribute_depth-z, attribute_depth-sum}
use Rattle.split.proofs.DepthLaws.{attribute_depth-next-other}
use Rattle.address.specs.Doubling.{In, without, sides}
use Rattle.address.specs.Address.{product}
use Rattle.address.specs.Vectors.{InBox}
use Rattle.address.proofs.BoxLaws.{In-get, In-length, In-of, product-without}

-- ---- after t steps

module _ (ws : List ℕ) (t : ℕ) where
  pub get_d-sides : (r : ℕ) → r < 4 → get_or (sides ws t) r 0 ≡ 2 ^ attribute_depth ws t r
  unfolding sides
  get_d-sides zero h = refl
  get_d-sides (suc zero) h = refl
  get_d-sides (suc (suc zero)) h = refl
  get_d-sides (suc (suc (suc zero))) h = refl
  get_d-sides (suc (suc (suc (suc r)))) h = absurd (omega arith)

  pub length-sides : length (sides ws t) ≡ 4
  unfolding sides
  length-sides = refl

  pub product-sides : product (sides ws t)
      ≡ 2 ^ (attribute_depth ws t 0 + attribute_depth ws t 1 + attribute_depth ws t 2 + attribute_depth ws t 3)
  unfolding sides
  product-sides =
      sym
      (pow-add 2 (attribute_depth ws t 0 + attribute_depth ws t 1 + attribute_depth ws t 2) (attribute_depth ws t 3)
      ∙ ap (λ x. x * 2 ^ attribute_depth ws t 3)
      (pow-add 2 (attribute_depth ws t 0 + attribute_depth ws t 1) (attribute_depth ws t 2))
      ∙ ap (λ x. x * 2 ^ attribute_depth ws t 2 * 2 ^ attribute_depth ws t 3)
      (pow-add 2 (attribute_depth ws t 0) (attribute_depth ws t 1))
      ∙ omega arith)

  -- depths that agree but at z
  pub without-sides : (u z : ℕ) → z < 4
      → ((r : ℕ) → r < 4 → (r ≡ z → ⊥) → attribute_depth ws t r ≡ attribute_depth ws u r)
      → without z (sides ws t) ≡ without z (sides ws u)
  unfolding sides
  without-sides u zero h e =
      cc (e 1 (omega arith) (omega arith), e 2 (omega arith) (omega arith), e 3 (omega arith) (omega arith))
  without-sides u (suc zero) h e =
      cc (e 0 (omega arith) (omega arith), e 2 (omega arith) (omega arith), e 3 (omega arith) (omega arith))
  without-sides u (suc (suc zero)) h e =
      cc (e 0 (omega arith) (omega arith), e 1 (omega arith) (omega arith), e 3 (omega arith) (omega arith))
  without-sides u (suc (suc (suc zero))) h e =
      cc (e 0 (omega arith) (omega arith), e 1 (omega arith) (omega arith), e 2 (omega arith) (omega arith))
  without-sides u (suc (suc (suc (suc z)))) h e = absurd (omega arith)

  -- ---- the box at t

  pub In-sides-get : {is : List ℕ} → In (sides ws t) is → (r : ℕ) → r < 4 → get_or is r 0 < 2 ^ attribute_depth ws t r
  unfolding sides
  In-sides-get {is} b r h = subst (λ x. get_or is r 0 < x) (get_d-sides r h) (In-get b r h)

  pub In-sides-length : {is : List ℕ} → In (sides ws t) is → length is ≡ 4
  In-sides-length b = In-length b ∙ length-sides

  pub In-sides-of : (is : List ℕ) → length is ≡ 4 → ((r : ℕ) → r < 4 → get_or is r 0 < 2 ^ attribute_depth ws t r)
      → In (sides ws t) is
  unfolding sides
  In-sides-of is e h = In-of (sides ws t) is e (λ r l. subst (λ x. get_or is r 0 < x) (sym (get_d-sides r l)) (h r l))

-- the box grows
pub In-sides-mono : (ws : List ℕ) (t u : ℕ) → t ≤ u → {is : List ℕ} → In (sides ws t) is → In (sides ws u) is
In-sides-mono ws t u h {is} b =
    In-sides-of ws u is (In-sides-length ws t b)
    (λ r l. le_trans (In-sides-get ws t b r l) (pow_mono (attribute_depth-mono ws r t u h)))

-- the whole box is that after all steps
pub In-sides-all : (ws is : List ℕ) → length is ≡ 4 → InBox ws is → In (sides ws (length (steps ws))) is
In-sides-all ws is e b =
    In-sides-of ws (length (steps ws)) is e
    (λ r l. subst (λ h. get_or is r 0 < 2 ^ h) (sym (attribute_depth-all ws b.fit r l)) (b.below r l))

-- ---- at a step

-- the numbers 2^h_j just before the pair at place g
abbrev pub sides_before : List ℕ → ℕ → List ℕ
sides_before ws g =
    2 ^ depth_before ws g 0 ∷ 2 ^ depth_before ws g 1 ∷ 2 ^ depth_before ws g 2 ∷ 2 ^ depth_before ws g 3 ∷ []

pub sides-step_number : (ws : List ℕ) (k j : ℕ) → j < 4 → k < get_or ws j 0 → get_or ws j 0 ≤ 16
    → sides ws (step_number ws k j) ≡ sides_before ws (4 * k + j)
unfolding sides
sides-step_number ws k j hj hk f =
    cc (
      attribute_depth-step_number ws k j hj hk f 0 (omega arith),
      attribute_depth-step_number ws k j hj hk f 1 (omega arith),
      attribute_depth-step_number ws k j hj hk f 2 (omega arith),
      attribute_depth-step_number ws k j hj hk f 3 (omega arith),
    )

module _ (ws : List ℕ) (fit : Fit ws) (k z : ℕ) (hz : z < 4) (hk : k < get_or ws z 0)
    {t : ℕ} (number : step_number ws k z ≡ t) where
  pub product-sides-step_number : product (sides ws t) ≡ 2 ^ t
  product-sides-step_number = product-sides ws t ∙ ap (λ x. 2 ^ x) (attribute_depth-sum ws fit k z hz hk number)

  -- 2 ^ t is 2 ^ k layers of the box of the others
  pub pow-step_number : 2 ^ t ≡ 2 ^ k * product (without z (sides ws t))
  pow-step_number =
      sym product-sides-step_number
      ∙ product-without (sides ws t) z (subst (λ n. z < n) (sym (length-sides ws t)) hz)
      ∙ ap (λ x. x * product (without z (sides ws t)))
      (get_d-sides ws t z hz ∙ ap (λ h. 2 ^ h) (attribute_depth-z ws fit k z hz hk number))

  pub without-sides-next : without z (sides ws (suc t)) ≡ without z (sides ws t)
  without-sides-next = without-sides ws (suc t) t z hz (attribute_depth-next-other ws fit k z hz hk number)

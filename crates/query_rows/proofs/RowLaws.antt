-- Laws of the row of a step: what the query wants of a bit, the shifts, and all its numbers. Assumes nothing.
use Prim.Native.Nat.{ℕ, zero, suc, ◌+◌, ◌*◌, ◌-◌, ◌/◌, ◌%◌, ◌^◌, ◌≤◌, ◌<◌, min}
use mathlib.Core.Path.{◌≡◌, refl, sym, ap, ◌∙◌}
use mathlib.Core.Bool.{cond}
use mathlib.Core.List.{List, [], ◌∷◌}
use mathlib.Core.Option.{Option, none}
use native.Mathlib.Omega.{arith}
use lib.Bits.{bit_and, and_mask}
use lib.Dec.{eqb}
use lib.ListN.{get_or, length}
use Rattle.lists.proofs.Bools.{cond_cases}
use Rattle.lists.proofs.Shifts.{one_shifted}
use Rattle.shape.specs.Shape.{Fit}
use Rattle.shape.specs.Key.{wanted_values}
use Rattle.shape.specs.declared.Wanted.{Wanted}
use Rattle.shape.specs.declared.Wanted.TheVariants.{Free, Given}
use Rattle.shape.specs.declared.Query.{Query}
use Rattle.shape.proofs.AttributeLaws.{get_d-wanted_values}
use Rattle.split.specs.Steps.{step_number, steps_below, attribute_depth}
use Rattle.split.proofs.StepLaws.{depth_before, length-steps_below}
use Rattle.split.proofs.DepthLaws.{step-here, attribute_depth-here}
use Rattle.region.specs.Query.{given}
use Rattle.model.specs.Sets.{query_bit_of}
use Rattle.query_rows.specs.Rows.{shift_of, other_depth, wanted_number, wanted_at, multiplier, step_row}
use Rattle.query_rows.proofs.LaneLaws.{four_numbers}

-- ---- what the query wants of a bit

module _ (query : Query) (j : ℕ) (h : j < 4) (w k : ℕ) where
  -- what it says of attribute j
  abbrev wanted_of : Wanted
  wanted_of = (get_or query.attributes j (record { wanted = Free })).wanted

  abbrev bit_number : ℕ
  bit_number = wanted_number (query_bit_of w k (get_or (wanted_values query) j none))

  pub wanted_number-free : wanted_of ≡ Free → 2 ≡ bit_number
  wanted_number-free e = rw (get_d-wanted_values query j h, e) refl

  pub wanted_number-given : (v : ℕ) → wanted_of ≡ Given v → bit_and (v / 2 ^ (w - 1 - k)) 1 ≡ bit_number
  wanted_number-given v e =
      let shift : w - 1 - k ≡ w - suc k = omega arith in
      rw (get_d-wanted_values query j h, e, shift, and_mask (v / 2 ^ (w - suc k)) 1)
      (bit (v / 2 ^ (w - suc k) % 2) (omega arith))
    where
      bit : (x : ℕ) → x < 2 → x ≡ wanted_number (given (eqb x 1))
      bit zero l = refl
      bit (suc zero) l = refl
      bit (suc (suc x)) l = absurd (omega arith)

-- ---- the row of a step

-- the four shifts, from the other depths
module _ (d0 d1 d2 d3 h0 h1 h2 h3 : ℕ) where
  abbrev Shifts : ℕ → Type 0
  Shifts z =
      (cond (eqb 0 z) (h0 + h1 + h2 + h3) (h1 + h2 + h3) ≡ shift_of z (four_numbers d0 d1 d2 d3) 0)
      × (cond (eqb 1 z) (h0 + h1 + h2 + h3) (h2 + h3) ≡ shift_of z (four_numbers d0 d1 d2 d3) 1)
      × (cond (eqb 2 z) (h0 + h1 + h2 + h3) h3 ≡ shift_of z (four_numbers d0 d1 d2 d3) 2)
      × (cond (eqb 3 z) (h0 + h1 + h2 + h3) 0 ≡ shift_of z (four_numbers d0 d1 d2 d3) 3)

  shifts : (z : ℕ) → z < 4 → h0 ≡ cond (eqb 0 z) 0 d0 → h1 ≡ cond (eqb 1 z) 0 d1 → h2 ≡ cond (eqb 2 z) 0 d2
      → h3 ≡ cond (eqb 3 z) 0 d3 → Shifts z
  unfolding shift_of
  shifts zero h e0 e1 e2 e3 = (omega arith, omega arith, omega arith, omega arith)
  shifts (suc zero) h e0 e1 e2 e3 = (omega arith, omega arith, omega arith, omega arith)
  shifts (suc (suc zero)) h e0 e1 e2 e3 = (omega arith, omega arith, omega arith, omega arith)
  shifts (suc (suc (suc zero))) h e0 e1 e2 e3 = (omega arith, omega arith, omega arith, omega arith)
  shifts (suc (suc (suc (suc z)))) h e0 e1 e2 e3 = absurd (omega arith)

-- the pair at place g, if it is a step
module _ (w0 w1 w2 w3 : ℕ) (fit : Fit (four_numbers w0 w1 w2 w3)) (g : ℕ) (low : g < 64)
    (live : g / 4 < get_or (four_numbers w0 w1 w2 w3) (g % 4) 0) where
  abbrev ws : List ℕ
  ws = four_numbers w0 w1 w2 w3

  abbrev t : ℕ
  t = length (steps_below ws g)

  number : step_number ws (g / 4) (g % 4) ≡ t
  unfolding step_number
  number = let e : 4 * (g / 4) + g % 4 ≡ g = omega arith in ap (λ x. length (steps_below ws x)) e

  depth-at : (j : ℕ) → j < 4 → attribute_depth ws t j ≡ min (get_or ws j 0) ((g + 3 - j) / 4)
  unfolding depth_before
  depth-at j hj =
      let e : 4 * (g / 4) + g % 4 ≡ g = omega arith in
      attribute_depth-here ws fit (g / 4) (g % 4) (omega arith) live number j hj ∙ ap (λ x. depth_before ws x j) e

  -- no shift passes 12 if t does not
  pub shifts-le : t < 12 → (h0 h1 h2 h3 s0 s1 s2 s3 : ℕ)
      → h0 ≡ other_depth w0 g 0 → h1 ≡ other_depth w1 g 1 → h2 ≡ other_depth w2 g 2 → h3 ≡ other_depth w3 g 3
      → s0 ≡ cond (eqb 0 (g % 4)) (h0 + h1 + h2 + h3) (h1 + h2 + h3)
      → s1 ≡ cond (eqb 1 (g % 4)) (h0 + h1 + h2 + h3) (h2 + h3)
      → s2 ≡ cond (eqb 2 (g % 4)) (h0 + h1 + h2 + h3) h3
      → s3 ≡ cond (eqb 3 (g % 4)) (h0 + h1 + h2 + h3) 0
      → (s0 ≤ 12) × (s1 ≤ 12) × (s2 ≤ 12) × (s3 ≤ 12)
  unfolding depth_before
  shifts-le few h0 h1 h2 h3 s0 s1 s2 s3 e0 e1 e2 e3 i0 i1 i2 i3 =
      let either : (j x y n : ℕ) → x ≤ n → y ≤ n → cond (eqb j (g % 4)) x y ≤ n =
      λ j x y n a b. cond_cases (λ m. m ≤ n) (eqb j (g % 4)) x y (λ e. a) (λ e. b) in
      let depth : (w j : ℕ) → other_depth w g j ≤ min w ((g + 3 - j) / 4) =
      λ w j. either j 0 (min w ((g + 3 - j) / 4)) (min w ((g + 3 - j) / 4)) (omega arith) (omega arith) in
      let all : h0 + h1 + h2 + h3 ≤ 12 =
      omega (arith, length-steps_below ws g, depth w0 0, depth w1 1, depth w2 2, depth w3 3) in (
        omega (arith, either 0 (h0 + h1 + h2 + h3) (h1 + h2 + h3) 12 all (omega arith)),
        omega (arith, either 1 (h0 + h1 + h2 + h3) (h2 + h3) 12 all (omega arith)),
        omega (arith, either 2 (h0 + h1 + h2 + h3) h3 12 all (omega arith)),
        omega (arith, either 3 (h0 + h1 + h2 + h3) 0 12 all (omega arith)),
      )

  pub step_row-pair : (wanted : List (Option ℕ)) (h0 h1 h2 h3 s0 s1 s2 s3 m0 m1 w n : ℕ)
      → h0 ≡ other_depth w0 g 0 → h1 ≡ other_depth w1 g 1 → h2 ≡ other_depth w2 g 2 → h3 ≡ other_depth w3 g 3
      → s0 ≡ cond (eqb 0 (g % 4)) (h0 + h1 + h2 + h3) (h1 + h2 + h3)
      → s1 ≡ cond (eqb 1 (g % 4)) (h0 + h1 + h2 + h3) (h2 + h3)
      → s2 ≡ cond (eqb 2 (g % 4)) (h0 + h1 + h2 + h3) h3
      → s3 ≡ cond (eqb 3 (g % 4)) (h0 + h1 + h2 + h3) 0
      → m0 ≡ multiplier s0 s1 → m1 ≡ multiplier s2 s3
      → w ≡ get_or ws (g % 4) 0 → n ≡ wanted_number (query_bit_of w (g / 4) (get_or wanted (g % 4) none))
      → m0 ∷ m1 ∷ ((1 * 2 ^ (16 * (g % 4) + g / 4)) % 2 ^ 64) ∷ n
      ∷ ((1 * 2 ^ (16 * (g % 4) + (w - 1 - g / 4))) % 2 ^ 64) ∷ []
      ≡ step_row ws (wanted_at ws wanted) t
  unfolding step_row
  step_row-pair wanted h0 h1 h2 h3 s0 s1 s2 s3 m0 m1 w n e0 e1 e2 e3 i0 i1 i2 i3 el eh ew en =
      let z = g % 4 in
      let deep : (j : ℕ) → j < 4 → (x : ℕ) → x ≡ cond (eqb j z) 0 (min (get_or ws j 0) ((g + 3 - j) / 4))
      → x ≡ cond (eqb j z) 0 (attribute_depth ws t j) = λ j hj x e. e ∙ ap (cond (eqb j z) 0) (sym (depth-at j hj)) in
      let s = shifts (attribute_depth ws t 0) (attribute_depth ws t 1) (attribute_depth ws t 2)
      (attribute_depth ws t 3) h0 h1 h2 h3 z (omega arith)
      (deep 0 (omega arith) h0 e0) (deep 1 (omega arith) h1 e1) (deep 2 (omega arith) h2 e2)
      (deep 3 (omega arith) h3 e3) in
      let small : 16 * z + g / 4 < 64 = omega (arith, fit z, live) in
      let low : w - 1 - g / 4 ≡ get_or ws z 0 - suc (g / 4) = omega arith in
      let lower : 16 * z + (w - 1 - g / 4) < 64 = omega (arith, fit z, live) in
      rw (step-here ws fit (g / 4) (g % 4) (omega arith) live number)
      (cc (
        el,
        eh,
        i0 ∙ s.0,
        i1 ∙ s.1,
        i2 ∙ s.2,
        i3 ∙ s.3,
        one_shifted (16 * z + g / 4) small,
        en ∙ ap (λ x. wanted_number (query_bit_of x (g / 4) (get_or wanted (g % 4) none))) ew,
        one_shifted (16 * z + (w - 1 - g / 4)) lower ∙ ap (λ x. 2 ^ (16 * z + x)) low,
      ))

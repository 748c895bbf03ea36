-- What is amiss in a shape: the lowest bad width, and which of 1, 14 and 15 a call gets. Assumes nothing.
use Prim.Native.Nat.{ℕ, ◌≤◌, ◌<◌}
use mathlib.Core.Path.{◌≡◌, refl, sym, ◌∙◌}
use mathlib.Core.Bool.{Bool, true, false, not, cond, false≢true}
use native.Mathlib.Omega.{arith}
use borrow.Author.Tests.{lt-ltb, le-ltb}
use Rattle.shape.specs.Refusal.{first_number, answered_by}
use Rattle.shape.specs.Shape.{count_fits, width_fits, widths_fit, capacity_fits, bad_width, lowest_bad}
use Rattle.shape.specs.Shape.{shape_conditions, shape_number}
use Rattle.shape.specs.Amiss.{ShapeRefusals}
use Rattle.shape.specs.declared.Shape.{Shape}
use Rattle.shape.proofs.BoundsLaws.{within-le, all_below-fails, all_below-true}
use Rattle.shape.proofs.BoundsLaws.{lowest_below-found, lowest_below-none, before-lowest_below}
use Rattle.shape.proofs.ShapeLaws.{shape_number-true, in_bounds-of}
use Rattle.shape.proofs.RefusalLaws.{answered_by-shape}

module _ (s : Shape) where
  pub bad_width-used : (j : ℕ) → j < s.attributes → (β : Bool) → width_fits s j ≡ β → bad_width s j ≡ not β
  bad_width-used j l β e = rw (lt-ltb j s.attributes l, e)

  pub bad_width-unused : (j : ℕ) → s.attributes ≤ j → bad_width s j ≡ false
  bad_width-unused j l = rw (le-ltb j s.attributes l)

  -- attribute j is the lowest with a bad width
  pub lowest_bad-found : (j : ℕ) → j < 4 → bad_width s j ≡ true → ((i : ℕ) → i < j → bad_width s i ≡ false)
      → lowest_bad s ≡ j
  unfolding lowest_bad
  lowest_bad-found j l bad below = lowest_below-found 4 (bad_width s) j l bad below

  -- none has one
  pub lowest_bad-four : ((i : ℕ) → i < 4 → bad_width s i ≡ false) → lowest_bad s ≡ 4
  unfolding lowest_bad
  lowest_bad-four below = lowest_below-none 4 (bad_width s) below

  module _ (count : count_fits s ≡ true) where
    pub lowest_bad-named : (j : ℕ) → j < s.attributes → width_fits s j ≡ false
        → ((i : ℕ) → i < j → width_fits s i ≡ true) → lowest_bad s ≡ j
    lowest_bad-named j l bad below =
        lowest_bad-found j (omega (arith, within-le 1 4 s.attributes count)) (bad_width-used j l false bad)
        (λ i k. bad_width-used i (omega arith) true (below i k))

    -- where none has one, 14 is not due
    pub widths_fit-of-lowest_bad : 4 ≤ lowest_bad s → widths_fit s ≡ true
    unfolding lowest_bad
    widths_fit-of-lowest_bad l =
        all_below-true s.attributes (λ j. width_fits s j)
        (λ j k. go j k (width_fits s j) refl)
      where
        go : (j : ℕ) → j < s.attributes → (β : Bool) → width_fits s j ≡ β → width_fits s j ≡ true
        go j k true e = e
        go j k false e =
            let four = within-le 1 4 s.attributes count in
            let bad = bad_width-used j k false e in
            let none = before-lowest_below 4 (bad_width s) j (omega (arith, four, l, k)) in
            absurd (false≢true (sym none ∙ bad))

-- ---- the number

module _ (s : Shape) where
  pub shape_number-count : count_fits s ≡ false → shape_number s ≡ 1
  unfolding shape_number shape_conditions first_number
  shape_number-count e = rw e

  module _ (count : count_fits s ≡ true) where
    pub shape_number-width : widths_fit s ≡ false → shape_number s ≡ 14
    unfolding shape_number shape_conditions first_number
    shape_number-width e = rw (count, e)

    pub shape_number-capacity : widths_fit s ≡ true → (β : Bool) → capacity_fits s ≡ β → shape_number s ≡ cond (not β) 15 0
    unfolding shape_number shape_conditions first_number
    shape_number-capacity fit β e = rw (count, fit, e)

-- ---- in the request's words

pub shape-refusals : (s : Shape) → ShapeRefusals s
unfolding shape_conditions answered_by
shape-refusals s =
    record {
      count = λ cs x e. rw e;
      width =
          λ cs x e j l bad below.
          rw (e, all_below-fails (λ i. width_fits s i) s.attributes j l bad, lowest_bad-named s e j l bad below);
      capacity = λ cs x e all c. rw (e, all_below-true s.attributes (λ j. width_fits s j) all, c);
      others = λ cs x e. answered_by-shape s x cs (shape_number-true s e);
      in-bounds = (in_bounds-of s, shape_number-true s);
    }

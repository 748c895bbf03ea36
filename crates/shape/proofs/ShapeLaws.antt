-- Laws of shapes: their number; how many widths they have, and how large; values below them. Assumes nothing.
use Prim.Native.Nat.{ℕ, zero, suc, ◌*◌, ◌^◌, ◌≤◌, ◌<◌}
use mathlib.Core.Path.{◌≡◌, refl}
use mathlib.Core.Bool.{Bool, true, false, not, cond, ◌&&◌}
use mathlib.Core.List.{List, [], ◌∷◌}
use native.Mathlib.Omega.{arith}
use lib.Dec.{ltb, leb}
use lib.ListN.{get_or, length}
use lib.Pow.{pow_pos}
use borrow.Author.Tests.{ltb-true, lt-ltb, le-ltb, leb-true}
use Rattle.lists.proofs.Bools.{and_split}
use Rattle.shape.specs.Refusal.{first_number}
use Rattle.shape.specs.Shape.{count_fits, widths_fit, capacity_fits, in_bounds, shape_conditions, shape_number}
use Rattle.shape.specs.Shape.{width_of, widths_of, total}
use Rattle.shape.specs.Shape.{Fit, index_fits}
use Rattle.shape.specs.declared.Shape.{Shape}
use Rattle.shape.proofs.BoundsLaws.{within-le, width-of-in_bounds}

-- ---- the number of a shape

-- the three of its conditions
three-none : (a b c : Bool) → ◌≡◌ {A = ℕ} (cond (not a) 1 (cond (not b) 14 (cond (not c) 15 0))) 0
    → (a ≡ true) × (b ≡ true) × (c ≡ true)
three-none false b c e = absurd (omega arith)
three-none true false c e = absurd (omega arith)
three-none true true false e = absurd (omega arith)
three-none true true true e = (refl, refl, refl)

module _ (s : Shape) where
  -- what each of them asks
  pub shape-parts : shape_number s ≡ 0 → (count_fits s ≡ true) × (widths_fit s ≡ true) × (capacity_fits s ≡ true)
  unfolding shape_number shape_conditions first_number
  shape-parts = three-none (count_fits s) (widths_fit s) (capacity_fits s)

  pub shape_number-first : first_number (shape_conditions s) ≡ 0 → shape_number s ≡ 0
  unfolding shape_number
  shape_number-first e = e

  pub shape_number-true : in_bounds s ≡ true → shape_number s ≡ 0
  unfolding in_bounds shape_number shape_conditions first_number
  shape_number-true e =
      let first = and_split (count_fits s) (widths_fit s && capacity_fits s) e in
      let rest = and_split (widths_fit s) (capacity_fits s) first.1 in
      rw (first.0, rest.0, rest.1)

  pub in_bounds-of : shape_number s ≡ 0 → in_bounds s ≡ true
  unfolding in_bounds
  in_bounds-of n = let parts = shape-parts n in rw (parts.0, parts.1, parts.2)

-- ---- widths

module _ (s : Shape) where
  pub width_of-used : (j : ℕ) → j < s.attributes → width_of s j ≡ get_or s.widths j 0
  width_of-used j l = rw (lt-ltb j s.attributes l)

  pub width_of-unused : (j : ℕ) → s.attributes ≤ j → width_of s j ≡ 0
  width_of-unused j l = rw (le-ltb j s.attributes l)

  pub length-widths_of : length (widths_of s) ≡ 4
  unfolding widths_of
  length-widths_of = refl

  pub width_of-le : in_bounds s ≡ true → (j : ℕ) → width_of s j ≤ 16
  width_of-le b j = go (ltb j s.attributes) refl
    where
      go : (t : Bool) → ltb j s.attributes ≡ t → cond t (get_or s.widths j 0) 0 ≤ 16
      go true e = within-le 1 16 (get_or s.widths j 0) (width-of-in_bounds s j b (ltb-true j s.attributes e))
      go false e = omega arith

  pub widths_of-fit : shape_number s ≡ 0 → Fit (widths_of s)
  unfolding widths_of
  widths_of-fit n zero = width_of-le (in_bounds-of s n) 0
  widths_of-fit n (suc zero) = width_of-le (in_bounds-of s n) 1
  widths_of-fit n (suc (suc zero)) = width_of-le (in_bounds-of s n) 2
  widths_of-fit n (suc (suc (suc zero))) = width_of-le (in_bounds-of s n) 3
  widths_of-fit n (suc (suc (suc (suc j)))) = omega arith

  -- the widths that the code works with
  pub widths-fit : (ws : List ℕ) → shape_number s ≡ 0 → ws ≡ widths_of s → Fit ws
  widths-fit ws n same = rw same (widths_of-fit n)

total-le-length : (ws : List ℕ) → Fit ws → total ws ≤ length ws * 16
total-le-length [] fit = omega arith
total-le-length (w ∷ ws) fit = omega (arith, fit 0, total-le-length ws (λ j. fit (suc j)))

pub total-le : (ws : List ℕ) → length ws ≡ 4 → Fit ws → total ws ≤ 64
total-le ws e fit = omega (arith, total-le-length ws fit)

-- ---- values

-- indices that fit are below their powers, also those that a short list leaves out
pub index_fits-below : (ws is : List ℕ) → index_fits ws is ≡ true → (r : ℕ) → r < length ws
    → get_or is r 0 < 2 ^ get_or ws r 0
index_fits-below [] is e r l = absurd (omega arith)
index_fits-below (w ∷ ws) [] e r l = pow_pos (get_or (w ∷ ws) r 0)
index_fits-below (w ∷ ws) (i ∷ is) e zero l = ltb-true i (2 ^ w) (and_split (ltb i (2 ^ w)) (index_fits ws is) e).0
index_fits-below (w ∷ ws) (i ∷ is) e (suc r) l =
    index_fits-below ws is (and_split (ltb i (2 ^ w)) (index_fits ws is) e).1 r (omega arith)

-- ---- capacity

pub capacity-bounds : (s : Shape) → shape_number s ≡ 0 → (1 ≤ s.capacity) × (s.capacity ≤ 16)
capacity-bounds s n =
    let c = and_split (leb 1 s.capacity) (leb s.capacity 16) (shape-parts s n).2 in
    (leb-true 1 s.capacity c.0, leb-true s.capacity 16 c.1)

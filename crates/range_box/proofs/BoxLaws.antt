-- Laws of boxes and regions: the reader's law, that a box meets a region exactly if a key of the shape begins with the
-- region and lies in the box; what a walk asks of the test. Assumes nothing.
use Prim.Native.Nat.{ℕ, ◌^◌, ◌≤◌, ◌<◌, max}
use mathlib.Core.Path.{◌≡◌, refl, sym, ap, ◌∙◌, subst}
use mathlib.Core.Bool.{Bool, true, false}
use mathlib.Core.List.{List}
use mathlib.Core.Option.{Option, none, some}
use mathlib.Core.Logic.{◌↔◌}
use native.Mathlib.Omega.{arith}
use native.Mathlib.Nat.{zero-add, lt_of_le_of_lt}
use lib.Dec.{leb}
use lib.ListN.{get_or, length}
use borrow.Author.Tests.{lt-ltb, leb-true, le-leb}
use Rattle.lists.proofs.Bools.{and_split, and_both}
use Rattle.shape.specs.Shape.{width_of, widths_of, total, all_below, index_fits, shape_number}
use Rattle.shape.specs.Key.{per_attribute, if_given}
use Rattle.shape.specs.Range.{Interval}
use Rattle.shape.specs.declared.Shape.{Shape}
use Rattle.shape.proofs.AttributeLaws.{get_d-per_attribute}
use Rattle.shape.proofs.BoundsLaws.{test-of-all_below, all_below-ext}
use Rattle.shape.proofs.ShapeLaws.{widths_of-fit}
use Rattle.split.specs.Steps.{steps_of, attribute_depth}
use Rattle.split.specs.Bits.{bit_of, split_bit}
use Rattle.split.proofs.BitLaws.{split_bit-step_number}
use Rattle.split.proofs.DepthLaws.{step_of, lt-attribute_depth}
use Rattle.cell.specs.Cell.{Agree}
use Rattle.region.specs.Strings.{same_bits}
use Rattle.region.proofs.StringLaws.{same_bits-refl, same_bits-below, bit-of-same_bits}
use Rattle.record.proofs.KeyLaws.{length-steps-widths_of, key_below, all_below-of-tests}
use Rattle.range_box.specs.Box.{Box, in_interval, in_box, box_fits, box_rises}
use Rattle.range_box.specs.Box.{number, lowest, highest, meets_interval, meets_at, box_meets, HoldsKey}
use Rattle.range_box.proofs.NumberLaws.{agree-of-number}
use Rattle.range_box.proofs.PrefixLaws.{ends-below}
use Rattle.range_box.proofs.RegionLaws.{corner-agree, lowest-mono, highest-mono, lowest-le-highest, highest-lt}
use Rattle.range_box.proofs.RegionLaws.{lowest-leb, leb-highest, bits-of-between, key-between}

-- ---- the numbers of a region and an interval

abbrev rises : Interval → Bool
rises i = leb i.low i.high

-- more numbers meet it too
meets_interval-mono : (o : Option Interval) (from to from' to' : ℕ) → from' ≤ from → to ≤ to'
    → if_given (meets_interval from to) o ≡ true → if_given (meets_interval from' to') o ≡ true
meets_interval-mono none from to from' to' h k e = refl
meets_interval-mono (some i) from to from' to' h k e =
    let c = and_split (leb i.low to) (leb from i.high) e in
    let a : i.low ≤ to = leb-true i.low to c.0 in
    let b : from ≤ i.high = leb-true from i.high c.1 in
    and_both (leb i.low to') (leb from' i.high) (le-leb i.low to' (omega arith))
    (le-leb from' i.high (omega arith))

-- a number of both
meets_interval-of-member : (o : Option Interval) (from to v : ℕ) → from ≤ v → v ≤ to → if_given (in_interval v) o ≡ true
    → if_given (meets_interval from to) o ≡ true
meets_interval-of-member none from to v h k e = refl
meets_interval-of-member (some i) from to v h k e =
    let c = and_split (leb i.low v) (leb v i.high) e in
    let a : i.low ≤ v = leb-true i.low v c.0 in
    let b : v ≤ i.high = leb-true v i.high c.1 in
    and_both (leb i.low to) (leb from i.high) (le-leb i.low to (omega arith))
    (le-leb from i.high (omega arith))

-- the least number of both
abbrev common : Option Interval → ℕ → ℕ
common none from = from
common (some i) from = max from i.low

common-member : (o : Option Interval) (from to : ℕ) → from ≤ to → if_given rises o ≡ true
    → if_given (meets_interval from to) o ≡ true
    → (from ≤ common o from) × (common o from ≤ to) × (if_given (in_interval (common o from)) o ≡ true)
common-member none from to l r e = (omega arith, l, refl)
common-member (some i) from to l r e =
    let c = and_split (leb i.low to) (leb from i.high) e in
    let a : i.low ≤ to = leb-true i.low to c.0 in
    let b : from ≤ i.high = leb-true from i.high c.1 in
    let d : i.low ≤ i.high = leb-true i.low i.high r in (
      omega arith,
      omega arith,
      and_both (leb i.low (max from i.low)) (leb (max from i.low) i.high)
          (le-leb i.low (max from i.low) (omega arith))
          (le-leb (max from i.low) i.high (omega arith)),
    )

-- ---- the reader's law

module _ (s : Shape) (box : Box) where
  box_meets-attribute : (p : ℕ → Bool) (x j : ℕ) → box_meets s box p x ≡ true → j < 4 → meets_at s box p x j ≡ true
  unfolding box_meets
  box_meets-attribute p x j e l = test-of-all_below (meets_at s box p x) 4 j e l

  -- the least key of the region in the box
  abbrev least_value : (ℕ → Bool) → ℕ → ℕ → ℕ
  least_value p x j = common (get_or box j none) (lowest s p x j)

  abbrev least_key : (ℕ → Bool) → ℕ → List ℕ
  least_key p x = per_attribute (least_value p x)

  get_d-least_key : (p : ℕ → Bool) (x j : ℕ) → j < 4 → get_or (least_key p x) j 0 ≡ least_value p x j
  get_d-least_key p x j l = get_d-per_attribute (least_value p x) 0 j l

  index_fits-four : (key : ℕ → ℕ) → ((j : ℕ) → j < 4 → key j < 2 ^ get_or (widths_of s) j 0)
      → index_fits (widths_of s) (per_attribute key) ≡ true
  unfolding widths_of
  index_fits-four key h =
      rw (
        lt-ltb (key 0) (2 ^ width_of s 0) (h 0 (omega arith)),
        lt-ltb (key 1) (2 ^ width_of s 1) (h 1 (omega arith)),
        lt-ltb (key 2) (2 ^ width_of s 2) (h 2 (omega arith)),
        lt-ltb (key 3) (2 ^ width_of s 3) (h 3 (omega arith)),
      )

  module _ (n : shape_number s ≡ 0) where
    -- a key of the shape that begins with the region and lies in the box
    pub box_meets-of-key : (p : ℕ → Bool) (x : ℕ) → HoldsKey s box p x → box_meets s box p x ≡ true
    unfolding box_meets in_box
    box_meets-of-key p x h =
        let key : List ℕ = h.0 in
        all_below-of-tests 4 _
        (λ j l.
        let b = key-between s n p x j l key (key_below s n key h.2 j l) h.3 in
        meets_interval-of-member (get_or box j none) (lowest s p x j) (highest s p x j) (get_or key j 0) b.0 b.1
        (test-of-all_below (λ i. if_given (in_interval (get_or key i 0)) (get_or box i none)) 4 j h.4 l))

    key-of-box_meets : box_rises box ≡ true → (p : ℕ → Bool) (x : ℕ) → x ≤ total (widths_of s)
        → box_meets s box p x ≡ true → HoldsKey s box p x
    unfolding box_rises in_box
    key-of-box_meets up p x hx e = (least_key p x, refl, index_fits-four _ below, begins, inside)
      where
        member : (j : ℕ) → j < 4 → (lowest s p x j ≤ least_value p x j) × (least_value p x j ≤ highest s p x j)
            × (if_given (in_interval (least_value p x j)) (get_or box j none) ≡ true)
        member j l =
            common-member (get_or box j none) (lowest s p x j) (highest s p x j) (lowest-le-highest s p j x)
            (test-of-all_below (λ i. if_given rises (get_or box i none)) 4 j up l) (box_meets-attribute p x j e l)

        below : (j : ℕ) → j < 4 → least_value p x j < 2 ^ get_or (widths_of s) j 0
        below j l = lt_of_le_of_lt (member j l).1 (highest-lt s p j x)

        inside : all_below 4 (λ j. if_given (in_interval (get_or (least_key p x) j 0)) (get_or box j none)) ≡ true
        inside =
            all_below-of-tests 4 _
            (λ j l. ap (λ v. if_given (in_interval v) (get_or box j none)) (get_d-least_key p x j l) ∙ (member j l).2)

        begins : same_bits p (split_bit (widths_of s) (least_key p x)) x 0 ≡ true
        begins =
            same_bits-below p (split_bit (widths_of s) (least_key p x)) x x 0 (omega (arith, zero-add x))
            (λ t l.
            let st = step_of (widths_of s) t (omega (arith, length-steps-widths_of s n)) in
            let k : ℕ = st.0 in
            let j : ℕ = st.1 in
            let v = least_value p x j in
            let m = member j st.2 in
            let first : k < attribute_depth (widths_of s) x j =
            lt-attribute_depth (widths_of s) (widths_of-fit s n) x k j st.2 st.3 (omega (arith, st.4)) in
            let same =
            agree-of-number (attribute_depth (widths_of s) x j) _ _
            (bits-of-between s n p x j st.2 v (below j st.2) m.0 m.1) k first in
            subst (λ u. p u ≡ split_bit (widths_of s) (least_key p x) u) st.4
            (sym same
            ∙ ap (λ u. bit_of (get_or (widths_of s) j 0) u k) (sym (get_d-least_key p x j st.2))
            ∙ sym (split_bit-step_number (widths_of s) (widths_of-fit s n) (least_key p x) k j st.2 st.3)))

    -- true exactly if some key of the shape begins with the region and lies in the box
    pub box_meets-key : box_rises box ≡ true → (p : ℕ → Bool) (x : ℕ) → x ≤ total (widths_of s)
        → (box_meets s box p x ≡ true) ↔ HoldsKey s box p x
    box_meets-key up p x hx = (key-of-box_meets up p x hx, box_meets-of-key p x)

    -- ---- what a walk asks of the test

    -- every beginning of a key in the box is met
    pub box_meets-beginning : (key : List ℕ) → length key ≡ 4 → index_fits (widths_of s) key ≡ true
        → in_box box key ≡ true → (x : ℕ) → box_meets s box (split_bit (widths_of s) key) x ≡ true
    box_meets-beginning key l f e x =
        let p : ℕ → Bool = split_bit (widths_of s) key in
        box_meets-of-key p x (key, l, f, same_bits-refl p x 0, e)

    -- so is the region of all keys
    pub box_meets-whole : box_fits s box ≡ true → (p : ℕ → Bool) → box_meets s box p 0 ≡ true
    unfolding box_meets number steps_of attribute_depth
    box_meets-whole f p = all_below-of-tests 4 (meets_at s box p 0) (λ j l. at j l (get_or box j none) refl)
      where
        at : (j : ℕ) → j < 4 → (o : Option Interval) → get_or box j none ≡ o
            → if_given (meets_interval (lowest s p 0 j) (highest s p 0 j)) o ≡ true
        at j l none e = refl
        at j l (some i) e =
            let b = ends-below s box f j l i e in
            and_both (leb i.low (highest s p 0 j)) (leb (lowest s p 0 j) i.high)
            (leb-highest s n p 0 j l i.low b.0) (lowest-leb s n p 0 j l i.high b.1)

  -- it looks at the region's bits only
  pub box_meets-same : (p q : ℕ → Bool) (x : ℕ) → same_bits p q x 0 ≡ true → box_meets s box p x ≡ box_meets s box q x
  unfolding box_meets
  box_meets-same p q x e =
      let a : Agree x p q =
      λ t l. sym (bit-of-same_bits p q x 0 e t (omega arith) (omega (arith, zero-add x))) in
      all_below-ext 4 (meets_at s box p x) (meets_at s box q x)
      (λ j l.
      ap (λ m. if_given (meets_interval m (highest s p x j)) (get_or box j none)) (corner-agree s p j q x false a)
      ∙ ap (λ m. if_given (meets_interval (lowest s q x j) m) (get_or box j none)) (corner-agree s p j q x true a))

  -- a beginning of a region that is met is met
  pub box_meets-le : (p : ℕ → Bool) (x y : ℕ) → x ≤ y → box_meets s box p y ≡ true → box_meets s box p x ≡ true
  unfolding box_meets
  box_meets-le p x y h e =
      all_below-of-tests 4 (meets_at s box p x)
      (λ j l.
      meets_interval-mono (get_or box j none) (lowest s p y j) (highest s p y j) (lowest s p x j) (highest s p x j)
      (lowest-mono s p j x y h) (highest-mono s p j x y h) (box_meets-attribute p y j e l))

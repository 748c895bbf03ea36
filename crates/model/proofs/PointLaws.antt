-- Equal ends: the range of a query's values has the query's numbers; its box meets the regions that agree with the
-- query and holds the records that match it; so list and reads are the query's. Assumes nothing.
use Prim.Native.Nat.{ℕ, suc, ◌+◌, ◌^◌, ◌≤◌, ◌<◌}
use mathlib.Core.Path.{◌≡◌, refl, sym, ap, ◌∙◌, subst}
use mathlib.Core.Bool.{Bool, true, false, ◌&&◌, ◌||◌, not}
use mathlib.Core.List.{List}
use mathlib.Core.Option.{Option, none, some}
use native.Mathlib.Omega.{arith}
use native.Mathlib.Nat.{zero-add}
use lib.Dec.{leb, ltb, eqb}
use lib.ListN.{get_or}
use borrow.Author.Tests.{leb-true, le-leb, ltb-true, eqb-true, eq-eqb}
use Rattle.lists.proofs.Bools.{and_split, and_both, eq-of-iff, eq-of-beq, beq-of-eq}
use Rattle.shape.specs.Shape.{width_of, widths_of, total, all_below, within, shape_number}
use Rattle.shape.specs.Key.{value_fits, encode, is_given, if_given, names_unused, query_fits}
use Rattle.shape.specs.Range.{ends_fit, range_fits, ends_rise, range_rises, point_of, point_range}
use Rattle.shape.specs.declared.Shape.{Shape}
use Rattle.shape.proofs.AttributeLaws.{get_d-per_attribute, get_d-widths_of}
use Rattle.shape.proofs.BoundsLaws.{test-of-all_below, all_below-ext}
use Rattle.shape.proofs.EncodingLaws.{value_fits-encode}
use Rattle.shape.proofs.ShapeLaws.{widths_of-fit}
use Rattle.split.specs.Steps.{step_number, attribute_depth}
use Rattle.split.specs.Bits.{bit_of}
use Rattle.split.proofs.DepthLaws.{step_of, lt-attribute_depth, step_number-lt-attribute_depth, attribute_depth-width}
use Rattle.cell.specs.Cell.{attribute_bit}
use Rattle.region.specs.Strings.{with_bit, empty_string}
use Rattle.region.specs.Division.{Division, leaf, divided, greatest_depth}
use Rattle.region.specs.Query.{bit_agrees, agrees, query_enters, LeafTest, holds_records, walk_reads}
use Rattle.region.proofs.DivideLaws.{greatest_depth-divide-le}
use Rattle.record.specs.Record.{Record, record_bit, matches}
use Rattle.record.proofs.KeyLaws.{length-steps-widths_of, all_below-of-tests}
use Rattle.range_box.specs.Box.{Box, encode_ends, box_of, in_interval, in_box}
use Rattle.range_box.specs.Box.{lowest, highest, meets_interval, meets_at, box_meets, box_enters}
use Rattle.range_box.proofs.NumberLaws.{number-agree, agree-of-number}
use Rattle.range_box.proofs.RegionLaws.{bits-of-between, between-of-bits}
use Rattle.range_box.proofs.RangeLaws.{get_d-box_of}
use Rattle.model.specs.Sets.{division_of, query_bits, reads_of, range_reads_of}
use Rattle.model.proofs.MatchLaws.{bit_agrees-of-agrees, agrees-of-bits, query_bits-step_number}
use Rattle.model.proofs.RangeWalkLaws.{range_reads_of-walk}

-- ---- numbers

module _ (s : Shape) (q : List (Option ℕ)) where
  get_d-point_range : (j : ℕ) → j < 4 → get_or (point_range q) j none ≡ point_of (get_or q j none)
  unfolding point_range
  get_d-point_range j l = get_d-per_attribute (λ i. point_of (get_or q i none)) none j l

  pub names_unused-point_range : names_unused s (point_range q) ≡ names_unused s q
  unfolding names_unused
  names_unused-point_range =
      ap not
      (all_below-ext 4 (λ j. ltb j s.attributes || not (is_given (get_or (point_range q) j none)))
      (λ j. ltb j s.attributes || not (is_given (get_or q j none)))
      (λ j l. ap (λ b. ltb j s.attributes || not b) (ap is_given (get_d-point_range j l) ∙ at (get_or q j none))))
    where
      at : (o : Option ℕ) → is_given (point_of o) ≡ is_given o
      at none = refl
      at (some v) = refl

  pub range_fits-point_range : range_fits s (point_range q) ≡ query_fits s q
  unfolding range_fits query_fits
  range_fits-point_range =
      all_below-ext 4 (λ j. if_given (ends_fit s j) (get_or (point_range q) j none))
      (λ j. if_given (value_fits s j) (get_or q j none))
      (λ j l. ap (if_given (ends_fit s j)) (get_d-point_range j l) ∙ at j (get_or q j none))
    where
      twice : (b : Bool) → (b && b) ≡ b
      twice true = refl
      twice false = refl

      at : (j : ℕ) (o : Option ℕ) → if_given (ends_fit s j) (point_of o) ≡ if_given (value_fits s j) o
      at j none = refl
      at j (some v) = twice (value_fits s j v)

  -- never 10
  pub range_rises-point_range : range_rises s (point_range q) ≡ true
  unfolding range_rises
  range_rises-point_range =
      all_below-of-tests 4 (λ j. if_given (ends_rise s j) (get_or (point_range q) j none))
      (λ j l. ap (if_given (ends_rise s j)) (get_d-point_range j l) ∙ at j (get_or q j none))
    where
      at : (j : ℕ) (o : Option ℕ) → if_given (ends_rise s j) (point_of o) ≡ true
      at j none = refl
      at j (some v) = le-leb (encode s j v) (encode s j v) (omega arith)

  -- ---- a record

  -- the box of the query's values
  abbrev point_box : Box
  point_box = box_of s (point_range q)

  get_d-point_box : (j : ℕ) → j < 4 → get_or point_box j none ≡ encode_ends s j (point_of (get_or q j none))
  get_d-point_box j l = get_d-box_of s (point_range q) j l ∙ ap (encode_ends s j) (get_d-point_range j l)

  within-equal : (e v : ℕ) → within e e v ≡ eqb e v
  within-equal e v =
      eq-of-iff (within e e v) (eqb e v)
      (λ h.
      let c = and_split (leb e v) (leb v e) h in
      let a : e ≤ v = leb-true e v c.0 in
      let b : v ≤ e = leb-true v e c.1 in
      eq-eqb e v (omega arith))
      (λ h.
      let a : e ≡ v = eqb-true e v h in
      and_both (leb e v) (leb v e) (le-leb e v (omega arith)) (le-leb v e (omega arith)))

  -- it lies in the box exactly if it matches the query
  pub in_box-point_range : (r : Record) → in_box point_box r.key ≡ matches s q r
  unfolding in_box matches
  in_box-point_range r =
      all_below-ext 4 (λ j. if_given (in_interval (get_or r.key j 0)) (get_or point_box j none))
      (λ j. if_given (λ v. eqb (encode s j v) (get_or r.key j 0)) (get_or q j none))
      (λ j l. ap (if_given (in_interval (get_or r.key j 0))) (get_d-point_box j l) ∙ at j (get_or q j none))
    where
      at : (j : ℕ) (o : Option ℕ) → if_given (in_interval (get_or r.key j 0)) (encode_ends s j (point_of o))
          ≡ if_given (λ v. eqb (encode s j v) (get_or r.key j 0)) o
      at j none = refl
      at j (some v) = within-equal (encode s j v) (get_or r.key j 0)

  -- ---- a region

  module _ (n : shape_number s ≡ 0) (f : query_fits s q ≡ true) where
    module _ (p : ℕ → Bool) (x : ℕ) where
      encoding-below : (j : ℕ) → j < 4 → (v : ℕ) → get_or q j none ≡ some v → encode s j v < 2 ^ get_or (widths_of s) j 0
      unfolding query_fits
      encoding-below j l v e =
          rw (get_d-widths_of s j l)
          (ltb-true (encode s j v) (2 ^ width_of s j)
          (sym (value_fits-encode s j v)
          ∙ (rw e at (test-of-all_below (λ i. if_given (value_fits s i) (get_or q i none)) 4 j f l))))

      -- attribute j of the region holds the query's value exactly if their bits agree
      agrees_at : (k j : ℕ) → j < 4 → k < get_or (widths_of s) j 0 → step_number (widths_of s) k j < x
          → (o : Option ℕ) → get_or q j none ≡ o
          → if_given (meets_interval (lowest s p x j) (highest s p x j)) (encode_ends s j (point_of o)) ≡ true
          → bit_agrees (query_bits s q (step_number (widths_of s) k j)) (p (step_number (widths_of s) k j)) ≡ true
      agrees_at k j l hk hx none d m = rw (query_bits-step_number s n q k j l hk, d)
      agrees_at k j l hk hx (some v) d m =
          let e : ℕ = encode s j v in
          let c = and_split (leb e (highest s p x j)) (leb (lowest s p x j) e) m in
          let same =
          agree-of-number (attribute_depth (widths_of s) x j) _ _
          (bits-of-between s n p x j l e (encoding-below j l v d) (leb-true (lowest s p x j) e c.1)
          (leb-true e (highest s p x j) c.0))
          k (lt-attribute_depth (widths_of s) (widths_of-fit s n) x k j l hk hx) in
          rw (query_bits-step_number s n q k j l hk, d) (beq-of-eq _ _ (sym same))

      meets-at : agrees (query_bits s q) p x 0 ≡ true → (j : ℕ) → j < 4 → (o : Option ℕ) → get_or q j none ≡ o
          → if_given (meets_interval (lowest s p x j) (highest s p x j)) (encode_ends s j (point_of o)) ≡ true
      meets-at a j l none d = refl
      meets-at a j l (some v) d =
          let e : ℕ = encode s j v in
          let w = get_or (widths_of s) j 0 in
          let b = between-of-bits s n p x j l e (encoding-below j l v d)
          (number-agree (attribute_depth (widths_of s) x j) (bit_of w e) (attribute_bit (widths_of s) p j)
          (λ k m.
          let hk : k < w = omega (arith, attribute_depth-width (widths_of s) j x l) in
          let hx : step_number (widths_of s) k j < 0 + x =
          omega (arith, step_number-lt-attribute_depth (widths_of s) (widths_of-fit s n) x k j l m, zero-add x) in
          sym (eq-of-beq _ _
          (rw (query_bits-step_number s n q k j l hk, d) at
          (bit_agrees-of-agrees (query_bits s q) p x 0 a (step_number (widths_of s) k j) (omega arith) hx))))) in
          and_both (leb e (highest s p x j)) (leb (lowest s p x j) e) (le-leb _ _ b.1) (le-leb _ _ b.0)

      -- the box meets the regions that agree with the query
      pub box_meets-point_range : x ≤ total (widths_of s) → box_meets s point_box p x ≡ agrees (query_bits s q) p x 0
      unfolding box_meets
      box_meets-point_range hx = eq-of-iff _ _ to from
        where
          to : all_below 4 (meets_at s point_box p x) ≡ true → agrees (query_bits s q) p x 0 ≡ true
          to e =
              agrees-of-bits (query_bits s q) p x 0
              (λ t h l.
              let st = step_of (widths_of s) t (omega (arith, length-steps-widths_of s n, zero-add x)) in
              let j : ℕ = st.1 in
              let m = test-of-all_below (meets_at s point_box p x) 4 j e st.2 in
              subst (λ u. bit_agrees (query_bits s q u) (p u) ≡ true) st.4
              (agrees_at st.0 j st.2 st.3 (omega (arith, st.4, zero-add x)) (get_or q j none) refl
              (ap (if_given (meets_interval (lowest s p x j) (highest s p x j))) (sym (get_d-point_box j st.2)) ∙ m)))

          from : agrees (query_bits s q) p x 0 ≡ true → all_below 4 (meets_at s point_box p x) ≡ true
          from a =
              all_below-of-tests 4 (meets_at s point_box p x)
              (λ j l.
              ap (if_given (meets_interval (lowest s p x j) (highest s p x j))) (get_d-point_box j l)
              ∙ meets-at a j l (get_or q j none) refl)

-- ---- reads

-- two tests of regions that are equal as deep as a division goes
module _ {R : Type 0} (enter enter' : ℕ → (ℕ → Bool) → Bool) (W : ℕ)
    (same : (x : ℕ) (p : ℕ → Bool) → x ≤ W → enter x p ≡ enter' x p) (opens : LeafTest R) where
  walk_reads-ext : (D : Division R) (p : ℕ → Bool) (t : ℕ) → t + greatest_depth D ≤ W
      → walk_reads enter opens p t D ≡ walk_reads enter' opens p t D
  walk_reads-ext (leaf rs) p t h = refl
  walk_reads-ext (divided l u) p t h =
      rw (
        same (suc t) (with_bit p t false) (omega arith),
        same (suc t) (with_bit p t true) (omega arith),
        walk_reads-ext l (with_bit p t false) (suc t) (omega arith),
        walk_reads-ext u (with_bit p t true) (suc t) (omega arith),
      )

module _ (s : Shape) (n : shape_number s ≡ 0) (q : List (Option ℕ)) (f : query_fits s q ≡ true) where
  pub range_reads_of-point_range : (S : List Record) → range_reads_of s (point_range q) S ≡ reads_of s q S
  unfolding reads_of division_of
  range_reads_of-point_range S =
      let deepest : greatest_depth (division_of s S) ≤ total (widths_of s) =
      greatest_depth-divide-le (record_bit s) s.capacity (total (widths_of s)) 0 S in
      range_reads_of-walk s n (point_range q) (range_fits-point_range s q ∙ f) S
      ∙ walk_reads-ext (box_enters s (box_of s (point_range q))) (query_enters (query_bits s q)) (total (widths_of s))
      (λ x p h. box_meets-point_range s q n f p x h) holds_records (division_of s S) empty_string 0
      (omega (arith, zero-add (greatest_depth (division_of s S))))

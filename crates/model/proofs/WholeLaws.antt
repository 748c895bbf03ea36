-- Whole intervals: a range that gives an attribute all its values has the numbers, the list and the reads of the range
-- that leaves it free. Assumes nothing.
use Prim.Native.Nat.{ℕ, ◌-◌, ◌^◌, ◌<◌, ◌≤◌}
use mathlib.Core.Path.{◌≡◌, refl, sym, ap, ◌∙◌}
use mathlib.Core.Bool.{Bool, true, ◌||◌, not}
use mathlib.Core.List.{List}
use mathlib.Core.Logic.{◌⊎◌, inl, inr}
use mathlib.Core.Option.{Option, none, some}
use native.Mathlib.Omega.{arith}
use lib.Dec.{leb, ltb}
use lib.ListN.{get_or, length, set}
use lib.Pow.{pow_pos, pow_mono}
use lib.Seq.{get_or-set_same, get_or-set_other}
use borrow.Author.Tests.{le-leb, lt-ltb}
use Rattle.lists.specs.Filter.{filter, non_empty}
use Rattle.lists.proofs.Bools.{and_both}
use Rattle.lists.proofs.FilterLaws.{filter-ext, filter-cong}
use Rattle.lists.proofs.Numbers.{eq-or-ne}
use Rattle.shape.specs.Shape.{width_of, all_below, shape_number}
use Rattle.shape.specs.Key.{value_fits, encode, decode, is_given, if_given, names_unused}
use Rattle.shape.specs.Range.{Interval, ends_fit, range_fits, ends_rise, range_rises}
use Rattle.shape.specs.declared.Shape.{Shape}
use Rattle.shape.proofs.AttributeLaws.{get_d-widths_of}
use Rattle.shape.proofs.BoundsLaws.{all_below-ext, attributes-le}
use Rattle.shape.proofs.EncodingLaws.{value_fits-encode, encode-decode}
use Rattle.shape.proofs.ShapeLaws.{in_bounds-of, widths_of-fit}
use Rattle.region.specs.Division.{leaves, depth, string_bit}
use Rattle.record.specs.Record.{Record}
use Rattle.record.proofs.KeyLaws.{key_below}
use Rattle.range_box.specs.Box.{encode_ends, box_of, in_interval, in_box, lowest, highest, meets_interval, box_meets}
use Rattle.range_box.proofs.RangeLaws.{get_d-box_of}
use Rattle.range_box.proofs.RegionLaws.{lowest-le-highest, highest-lt}
use Rattle.model.specs.Sets.{in_shape, is_set, division_of, range_reads_of}
use Rattle.model.specs.Ranges.{whole_interval}
use Rattle.model.proofs.SetLaws.{fits-of-in_shape, in_shape-of-is_set}

module _ (s : Shape) (n : shape_number s ≡ 0) (r : List (Option Interval)) (four : length r ≡ 4) (j : ℕ)
    (used : j < s.attributes) where
  -- the range with all values of attribute j, and with none named
  abbrev whole : List (Option Interval)
  whole = set r j (some (whole_interval s j))

  abbrev unnamed : List (Option Interval)
  unnamed = set r j none

  below-four : j < 4
  below-four = omega (arith, attributes-le s (in_bounds-of s n))

  -- a test of each attribute that lets both through
  tests_same : (test : ℕ → Option Interval → Bool) → test j (some (whole_interval s j)) ≡ true → test j none ≡ true
      → all_below 4 (λ i. test i (get_or whole i none)) ≡ all_below 4 (λ i. test i (get_or unnamed i none))
  tests_same test h k = all_below-ext 4 _ _ (λ i l. at i (eq-or-ne i j))
    where
      here : (o : Option Interval) → test j o ≡ true → test j (get_or (set r j o) j none) ≡ true
      here o e = rw (get_or-set_same r j o none (omega (arith, below-four))) e

      at : (i : ℕ) → (i ≡ j) ⊎ (i ≡ j → ⊥) → test i (get_or whole i none) ≡ test i (get_or unnamed i none)
      at i (inl e) = rw e (here (some (whole_interval s j)) h ∙ sym (here none k))
      at i (inr d) =
          ap (test i) (get_or-set_other r j i (some (whole_interval s j)) none d ∙ sym (get_or-set_other r j i none none d))

  -- ---- numbers

  pub names_unused-whole : names_unused s whole ≡ names_unused s unnamed
  unfolding names_unused
  names_unused-whole =
      ap not
      (tests_same (λ i o. ltb i s.attributes || not (is_given o)) (rw (lt-ltb j s.attributes used))
      (rw (lt-ltb j s.attributes used)))

  -- the greatest encoding
  abbrev last : ℕ
  last = 2 ^ width_of s j - 1

  power_le : 2 ^ width_of s j ≤ 2 ^ 16
  power_le =
      let width : width_of s j ≤ 16 = rw (← get_d-widths_of s j below-four) (widths_of-fit s n j) in
      pow_mono width

  of_zero : encode s j (decode s j 0) ≡ 0
  of_zero = encode-decode s j 0 (omega arith)

  of-last : encode s j (decode s j last) ≡ last
  of-last = encode-decode s j last (omega (arith, power_le))

  pub range_fits-whole : range_fits s whole ≡ range_fits s unnamed
  unfolding range_fits
  range_fits-whole =
      tests_same (λ i o. if_given (ends_fit s i) o)
      (and_both (value_fits s j (decode s j 0)) (value_fits s j (decode s j last))
      (fits 0 of_zero (pow_pos (width_of s j))) (fits last of-last (omega (arith, pow_pos (width_of s j)))))
      refl
    where
      fits : (e : ℕ) → encode s j (decode s j e) ≡ e → e < 2 ^ width_of s j → value_fits s j (decode s j e) ≡ true
      fits e same l =
          value_fits-encode s j (decode s j e)
          ∙ ap (λ y. ltb y (2 ^ width_of s j)) same
          ∙ lt-ltb e (2 ^ width_of s j) l

  pub range_rises-whole : range_rises s whole ≡ range_rises s unnamed
  unfolding range_rises
  range_rises-whole =
      tests_same (λ i o. if_given (ends_rise s i) o)
      ((λ i. leb (of_zero i) (of-last i)) ∙ le-leb 0 last (omega arith)) refl

  -- ---- boxes

  -- a test of each attribute of their boxes
  boxes-same : (test : ℕ → Option Interval → Bool) → test j (some (record { low = 0; high = last })) ≡ true
      → test j none ≡ true
      → all_below 4 (λ i. test i (get_or (box_of s whole) i none))
      ≡ all_below 4 (λ i. test i (get_or (box_of s unnamed) i none))
  boxes-same test h k =
      all_below-ext 4 _ _ (λ i l. ap (test i) (get_d-box_of s whole i l))
      ∙ tests_same (λ i o. test i (encode_ends s i o))
      ((λ i. test j (some (record { low = of_zero i; high = of-last i }))) ∙ h) k
      ∙ all_below-ext 4 _ _ (λ i l. ap (test i) (sym (get_d-box_of s unnamed i l)))

  in_box-whole : (x : Record) → in_shape s x ≡ true → in_box (box_of s whole) x.key ≡ in_box (box_of s unnamed) x.key
  unfolding in_box
  in_box-whole x f =
      let small : get_or x.key j 0 < 2 ^ width_of s j =
      rw (← get_d-widths_of s j below-four) (key_below s n x.key (fits-of-in_shape s x f) j below-four) in
      boxes-same (λ i o. if_given (in_interval (get_or x.key i 0)) o)
      (and_both (leb 0 (get_or x.key j 0)) (leb (get_or x.key j 0) last)
      (le-leb 0 (get_or x.key j 0) (omega arith)) (le-leb (get_or x.key j 0) last (omega arith)))
      refl

  box_meets-whole-interval : (p : ℕ → Bool) (x : ℕ) → box_meets s (box_of s whole) p x ≡ box_meets s (box_of s unnamed) p x
  unfolding box_meets
  box_meets-whole-interval p x =
      let small : highest s p x j < 2 ^ width_of s j = rw (← get_d-widths_of s j below-four) (highest-lt s p j x) in
      boxes-same (λ i o. if_given (meets_interval (lowest s p x i) (highest s p x i)) o)
      (and_both (leb 0 (highest s p x j)) (leb (lowest s p x j) last)
      (le-leb 0 (highest s p x j) (omega arith))
      (le-leb (lowest s p x j) last (omega (arith, lowest-le-highest s p j x))))
      refl

  -- ---- list and reads

  module _ (S : List Record) where
    pub filter-whole : is_set s S ≡ true
        → filter (λ x. in_box (box_of s whole) x.key) S ≡ filter (λ x. in_box (box_of s unnamed) x.key) S
    filter-whole e = filter-cong (in_shape s) _ _ in_box-whole S (in_shape-of-is_set s S e)

    pub range_reads_of-whole : range_reads_of s whole S ≡ range_reads_of s unnamed S
    unfolding range_reads_of
    range_reads_of-whole =
        ap (λ ls. length (filter (λ l. non_empty l.records) ls))
        (filter-ext (λ l. box_meets s (box_of s whole) (string_bit l) (depth l))
        (λ l. box_meets s (box_of s unnamed) (string_bit l) (depth l))
        (λ l. box_meets-whole-interval (string_bit l) (depth l)) (leaves (division_of s S)))

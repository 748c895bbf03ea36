-- A region meets a box of encodings exactly if its corner lies between the low end's fixed bits and the high end: the
-- fixed bits of an end are its first bits, and the others 0. Assumes nothing.
use Prim.Native.Nat.{ℕ, ◌*◌, ◌-◌, ◌/◌, ◌^◌, ◌<◌}
use mathlib.Core.Path.{◌≡◌, sym, ap, ◌∙◌, subst}
use mathlib.Core.Bool.{Bool, true, ◌&&◌}
use mathlib.Core.List.{List}
use mathlib.Core.Option.{Option, none, some}
use native.Mathlib.Omega.{arith}
use native.Mathlib.Nat.{zero-div, zero-mul, le-div_iff_mul-le}
use lib.Bits.{bit_and}
use lib.Dec.{leb}
use lib.ListN.{get_or}
use lib.Pow.{pow_pos, shl-shr}
use borrow.Author.Tests.{leb-true, le-leb}
use Rattle.lists.proofs.Bools.{eq-of-iff, and_both}
use Rattle.shape.specs.Shape.{Fit, widths_of, within, shape_number}
use Rattle.shape.specs.Key.{per_attribute, if_given}
use Rattle.shape.specs.Range.{Interval}
use Rattle.shape.specs.declared.Shape.{Shape}
use Rattle.shape.proofs.BoundsLaws.{all_below-ext}
use Rattle.shape.proofs.ShapeLaws.{widths_of-fit}
use Rattle.split.specs.Steps.{attribute_depth}
use Rattle.split.specs.Bits.{bit_of}
use Rattle.cell.specs.Cell.{attribute_bit}
use Rattle.range_box.specs.Box.{Box, box_fits, box_meets, box_enters, number}
use Rattle.range_box.specs.Prefix.{region_bits, first_meets, first_meets_at}
use Rattle.range_box.proofs.NumberLaws.{number-agree, number-bit_of}
use Rattle.range_box.proofs.PrefixLaws.{box_meets-first}
use Rattle.record.specs.Packed.{packed_key, SixteenBits, packed_value}
use Rattle.page_ends.specs.Ends.{fixed_bits}
use Rattle.page_ends.proofs.MaskLaws.{packed_value-packed_key, packed_value-masked}
use Rattle.key_between.specs.Between.{lies_between}
use Rattle.query_rows.specs.Corners.{Corner}
use Rattle.query_rows.proofs.CornerLaws.{packed_value-corner}
use Rattle.range_walk.specs.Meeting.{corner_meets, TellsMeeting}

-- ---- first bits

leb-floor : (a v r : ℕ) → leb (a * 2 ^ r) v ≡ leb a (v / 2 ^ r)
leb-floor a v r =
    let d = le-div_iff_mul-le {k = 2 ^ r} {x = a} {y = v} (pow_pos r) in
    eq-of-iff (leb (a * 2 ^ r) v) (leb a (v / 2 ^ r))
    (λ e. le-leb a (v / 2 ^ r) (d.1 (leb-true (a * 2 ^ r) v e)))
    (λ e. le-leb (a * 2 ^ r) v (d.0 (leb-true a (v / 2 ^ r) e)))

leb-scaled : (a b r : ℕ) → leb (a * 2 ^ r) (b * 2 ^ r) ≡ leb a b
leb-scaled a b r = leb-floor a (b * 2 ^ r) r ∙ ap (leb a) (shl-shr b r)

-- ---- a corner

module _ (ws : List ℕ) (fit : Fit ws) (x : ℕ) where
  -- how many bits of attribute j are free in a region of depth x
  abbrev free_bits : ℕ → ℕ
  free_bits j = get_or ws j 0 - attribute_depth ws x j

  packed_value-fixed : (low j : ℕ) → j < 4
      → packed_value (bit_and low (fixed_bits ws x)) j ≡ packed_value low j / 2 ^ free_bits j * 2 ^ free_bits j
  unfolding fixed_bits
  packed_value-fixed low j l = packed_value-masked free_bits (λ k. omega (arith, fit k)) low j l

  module _ (p : ℕ → Bool) (key : ℕ) (c : Corner ws x p key) where
    -- its first bits are those of the string
    first-number : (j : ℕ) → j < 4 → c.first j ≡ number (attribute_bit ws p j) (attribute_depth ws x j)
    first-number j l =
        sym (number-bit_of (attribute_depth ws x j) (c.first j) (c.below j l))
        ∙ number-agree (attribute_depth ws x j) (bit_of (attribute_depth ws x j) (c.first j)) (attribute_bit ws p j)
        (λ k h. c.bits j k l h)

    -- in one attribute they lie between the first bits of both ends
    within_first : (low high j : ℕ) → j < 4
        → within (packed_value (bit_and low (fixed_bits ws x)) j) (packed_value high j) (packed_value key j)
        ≡ (leb (packed_value low j / 2 ^ free_bits j) (c.first j)
        && leb (c.first j) (packed_value high j / 2 ^ free_bits j))
    within_first low high j l =
        (λ i. within (packed_value-fixed low j l i) (packed_value high j) (packed_value-corner ws fit x p key c j l i))
        ∙ (λ i. leb-scaled (packed_value low j / 2 ^ free_bits j) (c.first j) (free_bits j) i
        && leb-floor (c.first j) (packed_value high j) (free_bits j) i)

-- ---- a box

-- the ends of an attribute's interval; of a free one, those of all values of 16 bits
abbrev pub EndsOf : Option Interval → ℕ → ℕ → Type 0
EndsOf none low high = (low ≡ 0) × (high ≡ 65535)
EndsOf (some i) low high = (low ≡ i.low) × (high ≡ i.high)

module _ (s : Shape) (n : shape_number s ≡ 0) (box : Box) (fits : box_fits s box ≡ true) (low high : ℕ)
    -- two packed keys are the box's ends
    (ends : (j : ℕ) → j < 4 → EndsOf (get_or box j none) (packed_value low j) (packed_value high j)) where
  abbrev ws : List ℕ
  ws = widths_of s

  module _ (x : ℕ) (p : ℕ → Bool) (key : ℕ) (c : Corner ws x p key) where
    within-corner : (j : ℕ) → j < 4 → (o : Option Interval) → EndsOf o (packed_value low j) (packed_value high j)
        → within (packed_value (bit_and low (fixed_bits ws x)) j) (packed_value high j) (packed_value key j)
        ≡ if_given (first_meets (get_or ws j 0) (attribute_depth ws x j) (region_bits s p x j)) o
    within-corner j l none e =
        let r = get_or ws j 0 - attribute_depth ws x j in
        let floor : packed_value (bit_and low (fixed_bits ws x)) j ≡ 0 =
        packed_value-fixed ws (widths_of-fit s n) x low j l
        ∙ ap (λ v. v / 2 ^ r * 2 ^ r) e.0
        ∙ ap (λ v. v * 2 ^ r) (zero-div (2 ^ r))
        ∙ zero-mul (2 ^ r) in
        and_both _ _ (le-leb _ (packed_value key j) (omega (arith, floor)))
        (le-leb (packed_value key j) (packed_value high j) (omega (arith, e.1)))
    within-corner j l (some i) e =
        within_first ws (widths_of-fit s n) x p key c low high j l
        ∙ (λ t. first_meets (get_or ws j 0) (attribute_depth ws x j) (first-number ws (widths_of-fit s n) x p key c j l t)
        (record { low = e.0 t; high = e.1 t }))

    -- the corner tells whether the box meets its region
    pub corner_meets-box_meets : corner_meets (fixed_bits ws x) low high key ≡ box_meets s box p x
    unfolding lies_between
    corner_meets-box_meets =
        all_below-ext 4
        (λ j. within (packed_value (bit_and low (fixed_bits ws x)) j) (packed_value high j) (packed_value key j))
        (first_meets_at s box p x)
        (λ j l. within-corner j l (get_or box j none) (ends j l))
        ∙ sym (box_meets-first s n box fits p x)

  -- so a walk by it enters the regions that the box meets
  pub TellsMeeting-box_enters : (T : ℕ) → TellsMeeting ws T low high (box_enters s box)
  TellsMeeting-box_enters T x p key l c = corner_meets-box_meets x p key c

-- the ends by attribute, packed
pub TellsMeeting-packed : (s : Shape) → shape_number s ≡ 0 → (box : Box) → box_fits s box ≡ true → (lows highs : ℕ → ℕ)
    → SixteenBits (per_attribute lows) → SixteenBits (per_attribute highs)
    → ((j : ℕ) → j < 4 → EndsOf (get_or box j none) (lows j) (highs j)) → (T : ℕ)
    → TellsMeeting (widths_of s) T (packed_key (per_attribute lows)) (packed_key (per_attribute highs)) (box_enters s box)
TellsMeeting-packed s n box fits lows highs low_bits high_bits_lem ends T =
    TellsMeeting-box_enters s n box fits (packed_key (per_attribute lows)) (packed_key (per_attribute highs))
    (λ j l.
    subst (λ a. EndsOf (get_or box j none) a (packed_value (packed_key (per_attribute highs)) j))
    (sym (packed_value-packed_key lows low_bits j l))
    (subst (EndsOf (get_or box j none) (lows j)) (sym (packed_value-packed_key highs high_bits_lem j l)) (ends j l))) T

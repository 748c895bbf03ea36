-- Laws of a range's packed ends: they are those of its box, so that they tell the regions that the box meets and the
-- records inside it. Assumes nothing.
use Prim.Native.Nat.{ℕ, ◌^◌, ◌<◌}
use mathlib.Core.Path.{◌≡◌, sym, ap, ◌∙◌, subst}
use mathlib.Core.Bool.{true}
use mathlib.Core.List.{List}
use mathlib.Core.Option.{Option, none, some}
use native.Mathlib.Omega.{arith}
use lib.ListN.{get_or}
use borrow.Author.Tests.{le-leb}
use Rattle.lists.proofs.Bools.{and_both}
use Rattle.shape.specs.Shape.{shape_number, widths_of, within}
use Rattle.shape.specs.Key.{encode_wanted, encoded_wanted, if_given}
use Rattle.shape.specs.Range.{Interval, range_fits}
use Rattle.shape.specs.declared.Shape.{Shape}
use Rattle.shape.proofs.AttributeLaws.{get_d-per_attribute}
use Rattle.shape.proofs.BoundsLaws.{all_below-ext}
use Rattle.record.specs.Lanes.{bias_key}
use Rattle.record.specs.Bytes.{record_of}
use Rattle.record.specs.Packed.{SixteenBits}
use Rattle.record.proofs.ByteLaws.{AreBytes}
use Rattle.record.proofs.CodecLaws.{SixteenBits-record_of}
use Rattle.page_matches.specs.Within.{lies_in}
use Rattle.page_matches.proofs.WithinLaws.{lies_in-key_within}
use Rattle.range_box.specs.Box.{Box, box_of, encode_ends, in_interval, in_box, box_enters}
use Rattle.range_box.proofs.RangeLaws.{get_d-box_of, box_fits-box_of}
use Rattle.range_number.specs.Ends.{low_end, high_end, low_ends, high_ends, value_or, values_or, low_key, high_key}
use Rattle.range_number.proofs.EndLaws.{low-sixteen, high-sixteen, values_or-lt, get_d-low_ends, get_d-high_ends}
use Rattle.range_walk.specs.Meeting.{TellsMeeting}
use Rattle.range_walk.proofs.BoxLaws.{EndsOf, TellsMeeting-packed}

EndsOf-encode_ends : (s : Shape) (j : ℕ) (o : Option Interval) (low high : ℕ)
    → low ≡ value_or 0 (encode_wanted s j (low_end o)) → high ≡ value_or 65535 (encode_wanted s j (high_end o))
    → EndsOf (encode_ends s j o) low high
EndsOf-encode_ends s j none low high a b = (a, b)
EndsOf-encode_ends s j (some i) low high a b = (a, b)

-- a value of 16 bits between the ends
within-EndsOf : (o : Option Interval) (low high v : ℕ) → EndsOf o low high → v < 2 ^ 16
    → within low high v ≡ if_given (in_interval v) o
within-EndsOf none low high v e h =
    and_both _ _ (le-leb low v (omega (arith, e.0))) (le-leb v high (omega (arith, e.1)))
within-EndsOf (some i) low high v e h = λ t. within (e.0 t) (e.1 t) v

module _ (s : Shape) (n : shape_number s ≡ 0) (r : List (Option Interval)) (fits : range_fits s r ≡ true) where
  abbrev box : Box
  box = box_of s r

  -- the encodings of the ends
  abbrev lows : List (Option ℕ)
  lows = encoded_wanted s (low_ends r)

  abbrev highs : List (Option ℕ)
  highs = encoded_wanted s (high_ends r)

  abbrev low : ℕ → ℕ
  low j = value_or 0 (get_or lows j none)

  abbrev high : ℕ → ℕ
  high j = value_or 65535 (get_or highs j none)

  low_bits : SixteenBits (values_or 0 lows)
  low_bits = values_or-lt 0 lows (omega arith) (low-sixteen s n r fits)

  high_bits : SixteenBits (values_or 65535 highs)
  high_bits = values_or-lt 65535 highs (omega arith) (high-sixteen s n r fits)

  EndsOf-box : (j : ℕ) → j < 4 → EndsOf (get_or box j none) (low j) (high j)
  EndsOf-box j l =
      subst (λ o. EndsOf o (low j) (high j)) (sym (get_d-box_of s r j l))
      (EndsOf-encode_ends s j (get_or r j none) (low j) (high j)
      (ap (value_or 0) (get_d-low_ends s r j l)) (ap (value_or 65535) (get_d-high_ends s r j l)))

  -- a walk by the packed ends enters the regions that the box meets
  pub TellsMeeting-keys : (T : ℕ) → TellsMeeting (widths_of s) T (low_key s r) (high_key s r) (box_enters s box)
  unfolding low_key high_key
  TellsMeeting-keys =
      TellsMeeting-packed s n box (box_fits-box_of s r ∙ fits) low high low_bits high_bits EndsOf-box

  -- the test of a record's bytes is that of the record
  pub lies_in-in_box : (bytes : List ℕ) → AreBytes bytes
      → lies_in (bias_key s) (low_key s r) (high_key s r) bytes ≡ in_box box (record_of s bytes).key
  unfolding low_key high_key in_box
  lies_in-in_box bytes b =
      let key : List ℕ = (record_of s bytes).key in
      lies_in-key_within s n (values_or 0 lows) (values_or 65535 highs) low_bits high_bits bytes b
      ∙ all_below-ext 4
      (λ j. within (get_or (values_or 0 lows) j 0) (get_or (values_or 65535 highs) j 0) (get_or key j 0))
      (λ j. if_given (in_interval (get_or key j 0)) (get_or box j none))
      (λ j l.
      (λ i. within (get_d-per_attribute low 0 j l i) (get_d-per_attribute high 0 j l i) (get_or key j 0))
      ∙ within-EndsOf (get_or box j none) (low j) (high j) (get_or key j 0) (EndsOf-box j l)
      (SixteenBits-record_of s bytes b j))

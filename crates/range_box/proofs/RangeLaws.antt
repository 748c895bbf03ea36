-- Laws of a range's box: its ends fit and rise exactly if the range's do. Assumes nothing.
use Prim.Native.Nat.{ℕ, ◌^◌, ◌<◌}
use mathlib.Core.Path.{◌≡◌, refl, sym, ap, ◌∙◌}
use mathlib.Core.Bool.{◌&&◌}
use mathlib.Core.List.{List}
use mathlib.Core.Option.{Option, none, some}
use lib.Dec.{leb, ltb}
use lib.ListN.{get_or}
use Rattle.shape.specs.Shape.{width_of}
use Rattle.shape.specs.Key.{if_given}
use Rattle.shape.specs.Range.{Interval, ends_fit, range_fits, ends_rise, range_rises}
use Rattle.shape.specs.declared.Shape.{Shape}
use Rattle.shape.proofs.AttributeLaws.{get_d-per_attribute}
use Rattle.shape.proofs.BoundsLaws.{all_below-ext}
use Rattle.shape.proofs.EncodingLaws.{value_fits-encode}
use Rattle.range_box.specs.Box.{encode_ends, box_of, box_fits, box_rises}

module _ (s : Shape) (r : List (Option Interval)) where
  pub get_d-box_of : (j : ℕ) → j < 4 → get_or (box_of s r) j none ≡ encode_ends s j (get_or r j none)
  unfolding box_of
  get_d-box_of j l = get_d-per_attribute (λ i. encode_ends s i (get_or r i none)) none j l

  pub box_fits-box_of : box_fits s (box_of s r) ≡ range_fits s r
  unfolding box_fits range_fits
  box_fits-box_of =
      all_below-ext 4 _ (λ j. if_given (ends_fit s j) (get_or r j none))
      (λ j l.
      ap (if_given (λ i. ltb i.low (2 ^ width_of s j) && ltb i.high (2 ^ width_of s j))) (get_d-box_of j l)
      ∙ at j (get_or r j none))
    where
      at : (j : ℕ) (o : Option Interval)
          → if_given (λ i. ltb i.low (2 ^ width_of s j) && ltb i.high (2 ^ width_of s j)) (encode_ends s j o)
          ≡ if_given (ends_fit s j) o
      at j none = refl
      at j (some i) = λ k. sym (value_fits-encode s j i.low) k && sym (value_fits-encode s j i.high) k

  pub box_rises-box_of : box_rises (box_of s r) ≡ range_rises s r
  unfolding box_rises range_rises
  box_rises-box_of =
      all_below-ext 4 _ (λ j. if_given (ends_rise s j) (get_or r j none))
      (λ j l. ap (if_given (λ i. leb i.low i.high)) (get_d-box_of j l) ∙ at j (get_or r j none))
    where
      at : (j : ℕ) (o : Option Interval)
          → if_given (λ i. leb i.low i.high) (encode_ends s j o) ≡ if_given (ends_rise s j) o
      at j none = refl
      at j (some i) = refl

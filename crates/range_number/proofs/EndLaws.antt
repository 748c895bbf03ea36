-- Laws of a range's ends: its intervals; 8, 3 and 10 told from them; their bits. Assumes nothing.
use Prim.Native.Nat.{ℕ, zero, suc, ◌^◌, ◌<◌}
use mathlib.Core.Path.{◌≡◌, refl, sym, ap, ◌∙◌}
use mathlib.Core.Bool.{Bool, true, false, not, ◌&&◌, ◌||◌}
use mathlib.Core.List.{List}
use mathlib.Core.Option.{Option, none, some}
use native.Mathlib.Omega.{arith}
use lib.Dec.{leb, ltb}
use lib.ListN.{get_or}
use borrow.Author.Tests.{le-leb}
use Rattle.lists.proofs.Bools.{and_split}
use Rattle.shape.specs.Shape.{shape_number, within}
use Rattle.shape.specs.Key.{value_fits, encode, encode_wanted, encoded_wanted, value_or, is_given, if_given, names_unused, query_fits}
use Rattle.shape.specs.Range.{Interval, span_interval, range_intervals, ends_fit, ends_rise, range_fits, range_rises}
use Rattle.shape.specs.declared.Shape.{Shape}
use Rattle.shape.specs.declared.Range.{Range}
use Rattle.shape.specs.declared.Span.TheVariants.{Free}
use Rattle.shape.proofs.AttributeLaws.{get_d-per_attribute}
use Rattle.shape.proofs.BoundsLaws.{all_below-ext}
use Rattle.record.specs.Packed.{packed_value, SixteenBits}
use Rattle.page_ends.proofs.MaskLaws.{packed_value-packed_key}
use Rattle.key_between.specs.Between.{lies_between}
use Rattle.page_matches.specs.Pattern.{wanted_bits, GivenSixteenBits}
use Rattle.query_number.proofs.EarlyLaws.{sixteen-of-fits}
use Rattle.range_number.specs.Ends.{low_end, high_end, low_ends, high_ends, values_or, low_key, high_key}

-- ---- intervals

pub get_d-range_intervals : (r : Range) (j : ℕ) → j < 4
    → get_or (range_intervals r) j none ≡ span_interval (get_or r.attributes j (record { span = Free })).span
unfolding range_intervals
get_d-range_intervals r j h =
    get_d-per_attribute (λ i. span_interval (get_or r.attributes i (record { span = Free })).span) none j h

-- ---- bits

value_or-lt : (free : ℕ) (w : Option ℕ) → free < 65536 → wanted_bits w < 2 ^ 16 → value_or free w < 2 ^ 16
value_or-lt free none f h = f
value_or-lt free (some v) f h = h

pub values_or-lt : (free : ℕ) (q : List (Option ℕ)) → free < 65536 → GivenSixteenBits q → SixteenBits (values_or free q)
values_or-lt free q f six zero = value_or-lt free (get_or q 0 none) f (six 0)
values_or-lt free q f six (suc zero) = value_or-lt free (get_or q 1 none) f (six 1)
values_or-lt free q f six (suc (suc zero)) = value_or-lt free (get_or q 2 none) f (six 2)
values_or-lt free q f six (suc (suc (suc zero))) = value_or-lt free (get_or q 3 none) f (six 3)
values_or-lt free q f six (suc (suc (suc (suc j)))) = omega arith

-- ---- 8

given-low_end : (o : Option Interval) → is_given (low_end o) ≡ is_given o
given-low_end none = refl
given-low_end (some i) = refl

pub names_unused-low_ends : (s : Shape) (r : List (Option Interval)) → names_unused s (low_ends r) ≡ names_unused s r
unfolding names_unused low_ends
names_unused-low_ends s r =
    let e : (j : ℕ) → (ltb j s.attributes || not (is_given (low_end (get_or r j none))))
    ≡ (ltb j s.attributes || not (is_given (get_or r j none))) =
    λ j. ap (λ b. ltb j s.attributes || not b) (given-low_end (get_or r j none)) in
    (λ i. not (((e 0 i && e 1 i) && e 2 i) && e 3 i))

-- ---- 3

fit-ends : (s : Shape) (j : ℕ) (o : Option Interval)
    → if_given (ends_fit s j) o ≡ (if_given (value_fits s j) (low_end o) && if_given (value_fits s j) (high_end o))
fit-ends s j none = refl
fit-ends s j (some i) = refl

and-pairs : (a b c d : Bool) → ((a && b) && (c && d)) ≡ ((a && c) && (b && d))
and-pairs true true c d = refl
and-pairs true false true d = refl
and-pairs true false false d = refl
and-pairs false b c d = refl

pub range_fits-ends : (s : Shape) (r : List (Option Interval))
    → range_fits s r ≡ (query_fits s (low_ends r) && query_fits s (high_ends r))
unfolding range_fits query_fits low_ends high_ends
range_fits-ends s r =
    let l : ℕ → Bool = λ j. if_given (value_fits s j) (low_end (get_or r j none)) in
    let h : ℕ → Bool = λ j. if_given (value_fits s j) (high_end (get_or r j none)) in
    let e : (j : ℕ) → if_given (ends_fit s j) (get_or r j none) ≡ (l j && h j) = λ j. fit-ends s j (get_or r j none) in
    (λ i. ((e 0 i && e 1 i) && e 2 i) && e 3 i)
    ∙ (λ i. (and-pairs (l 0) (h 0) (l 1) (h 1) i && (l 2 && h 2)) && (l 3 && h 3))
    ∙ (λ i. and-pairs (l 0 && l 1) (h 0 && h 1) (l 2) (h 2) i && (l 3 && h 3))
    ∙ and-pairs ((l 0 && l 1) && l 2) ((h 0 && h 1) && h 2) (l 3) (h 3)

-- the encodings of both have 16 bits if the range fits a shape
pub low-sixteen : (s : Shape) → shape_number s ≡ 0 → (r : List (Option Interval)) → range_fits s r ≡ true
    → GivenSixteenBits (encoded_wanted s (low_ends r))
low-sixteen s n r f =
    sixteen-of-fits s n (low_ends r)
    (and_split (query_fits s (low_ends r)) (query_fits s (high_ends r)) (sym (range_fits-ends s r) ∙ f)).0

pub high-sixteen : (s : Shape) → shape_number s ≡ 0 → (r : List (Option Interval)) → range_fits s r ≡ true
    → GivenSixteenBits (encoded_wanted s (high_ends r))
high-sixteen s n r f =
    sixteen-of-fits s n (high_ends r)
    (and_split (query_fits s (low_ends r)) (query_fits s (high_ends r)) (sym (range_fits-ends s r) ∙ f)).1

-- ---- 10

-- the encodings of the ends, by attribute
module _ (s : Shape) (r : List (Option Interval)) (j : ℕ) (l : j < 4) where
  pub get_d-low_ends : get_or (encoded_wanted s (low_ends r)) j none ≡ encode_wanted s j (low_end (get_or r j none))
  unfolding encoded_wanted low_ends
  get_d-low_ends =
      get_d-per_attribute (λ i. encode_wanted s i (get_or (low_ends r) i none)) none j l
      ∙ ap (encode_wanted s j) (get_d-per_attribute (λ i. low_end (get_or r i none)) none j l)

  pub get_d-high_ends : get_or (encoded_wanted s (high_ends r)) j none ≡ encode_wanted s j (high_end (get_or r j none))
  unfolding encoded_wanted high_ends
  get_d-high_ends =
      get_d-per_attribute (λ i. encode_wanted s i (get_or (high_ends r) i none)) none j l
      ∙ ap (encode_wanted s j) (get_d-per_attribute (λ i. high_end (get_or r i none)) none j l)

rise-ends : (s : Shape) (j : ℕ) (o : Option Interval)
    → let low = value_or 0 (encode_wanted s j (low_end o)) in
    within low (value_or 65535 (encode_wanted s j (high_end o))) low ≡ if_given (ends_rise s j) o
rise-ends s j none = refl
rise-ends s j (some i) =
    let low = encode s j i.low in
    ap (λ b. b && leb low (encode s j i.high)) (le-leb low low (omega arith))

-- the low ends lie between both
pub range_rises-ends : (s : Shape) (r : List (Option Interval))
    → GivenSixteenBits (encoded_wanted s (low_ends r)) → GivenSixteenBits (encoded_wanted s (high_ends r))
    → lies_between (low_key s r) (high_key s r) (low_key s r) ≡ range_rises s r
unfolding range_rises lies_between low_key high_key
range_rises-ends s r low-six high-six =
    let lows = encoded_wanted s (low_ends r) in
    let highs = encoded_wanted s (high_ends r) in
    let low : (j : ℕ) → j < 4 → packed_value (low_key s r) j ≡ value_or 0 (encode_wanted s j (low_end (get_or r j none))) =
    λ j l.
    packed_value-packed_key (λ i. value_or 0 (get_or lows i none)) (values_or-lt 0 lows (omega arith) low-six) j l
    ∙ ap (value_or 0) (get_d-low_ends s r j l) in
    let high : (j : ℕ) → j < 4
    → packed_value (high_key s r) j ≡ value_or 65535 (encode_wanted s j (high_end (get_or r j none))) =
    λ j l.
    packed_value-packed_key (λ i. value_or 65535 (get_or highs i none)) (values_or-lt 65535 highs (omega arith) high-six) j l
    ∙ ap (value_or 65535) (get_d-high_ends s r j l) in
    all_below-ext 4
    (λ j. within (packed_value (low_key s r) j) (packed_value (high_key s r) j) (packed_value (low_key s r) j))
    (λ j. if_given (ends_rise s j) (get_or r j none))
    (λ j l. (λ i. within (low j l i) (high j l i) (low j l i)) ∙ rise-ends s j (get_or r j none))

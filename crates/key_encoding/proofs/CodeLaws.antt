-- Laws of the code: a shape without marks, a bias of 0, a mark by shift and mask, a bias by shift, sums that fit their
-- words, four results of calls. Assumes nothing.
use Rattle.std.proofs.Common.{◌≡◌, ℕ, ◌+◌, ◌-◌, ◌*◌, ◌/◌, ◌%◌, ◌^◌, ◌<◌, ◌≤◌, Bool, true, false, eqb, List, [], ◌∷◌, get_or, sym, refl, ap, ◌∙◌, subst, arith, lt-ltb}
use lib.Bits.{bit_and, bit_or, and_mask, and_le_l, and_le_r, or_add_and}
use Rattle.shape.specs.Shape.{width_of, shape_number}
use Rattle.shape.specs.Key.{per_attribute, marked, bias, encode, encodings}
use Rattle.shape.specs.declared.Shape.{Shape}
use Rattle.shape.proofs.EncodingLaws.{marked-lt, bias-marked, bias-plain, encode-marked, encode-plain, width-marked}
use Rattle.shape.proofs.EncodingLaws.{bias-lt}
use Rattle.shape.proofs.ShapeLaws.{width_of-used}
use Rattle.shape.proofs.UnmarkedLaws.{bias-none}
use Rattle.record.specs.Packed.{packed_key, SixteenBits, packed_value, unpacked_key}
use Rattle.record.specs.Lanes.{sums, differences, lane_sum, lane_difference, bias_key}
use Rattle.record.proofs.FieldLaws.{unpacked_key-bias_key}
use Rattle.record.proofs.LaneWordLaws.{lower, tops}
use Rattle.record.proofs.PackedLaws.{packed_key-unpacked_key, unpacked_key-lt}

-- ---- words

pub lower-sum-lt : (x y : ℕ) → bit_and x lower + bit_and y lower < 18446744073709551616
lower-sum-lt x y = omega (arith, and_le_r x lower, and_le_r y lower)

pub lower-le-tops : (x y : ℕ) → bit_and y lower ≤ bit_or x tops
lower-le-tops x y = omega (arith, and_le_r y lower, or_add_and x tops, and_le_l x tops)

-- ---- a bias of 0

module _ (x y : ℕ) (h : x < 2 ^ 64) (z : y ≡ 0) where
  pub lane_sum-zero : x ≡ lane_sum x y
  unfolding sums unpacked_key
  lane_sum-zero =
      let same : (j : ℕ) → packed_value x j ≡ (packed_value x j + 0) % 2 ^ 16 = λ j. omega arith in
      sym (packed_key-unpacked_key x h)
      ∙ (λ i. packed_key (same 0 i ∷ same 1 i ∷ same 2 i ∷ same 3 i ∷ []))
      ∙ ap (lane_sum x) (sym z)

  pub lane_difference-zero : x ≡ lane_difference x y
  unfolding differences unpacked_key
  lane_difference-zero =
      let same : (j : ℕ) → packed_value x j ≡ (packed_value x j + (2 ^ 16 - 0)) % 2 ^ 16 = λ j. omega arith in
      sym (packed_key-unpacked_key x h)
      ∙ (λ i. packed_key (same 0 i ∷ same 1 i ∷ same 2 i ∷ same 3 i ∷ []))
      ∙ ap (lane_difference x) (sym z)

-- ---- a shape without marks

pub bias_key-none : (s : Shape) → s.signs ≡ 0 → 0 ≡ bias_key s
unfolding bias_key packed_key
bias_key-none s z =
    let none-added : (j : ℕ) → 0 ≡ bias s j = λ j. sym (bias-none s z j) in
    (λ i. packed_key (none-added 0 i ∷ none-added 1 i ∷ none-added 2 i ∷ none-added 3 i ∷ []))

-- ---- marks, biases, encodings

module _ (s : Shape) (j : ℕ) where
  pub marked-used : j < s.attributes → eqb (bit_and (s.signs / 2 ^ j) 1) 1 ≡ marked s j
  unfolding marked
  marked-used l = rw (lt-ltb j s.attributes l) (ap (λ b. eqb b 1) (and_mask (s.signs / 2 ^ j) 1))

  -- the bound of a marked attribute's width, as the code reads it
  pub width_read : shape_number s ≡ 0 → marked s j ≡ true → (1 ≤ get_or s.widths j 0) × (get_or s.widths j 0 ≤ 16)
  width_read n m =
      let same = width_of-used s j (marked-lt s j m) in
      let w = width-marked s n j m in
      (omega (arith, same, w.0), omega (arith, same, w.1))

  pub bias-shifted : shape_number s ≡ 0 → marked s j ≡ true
      → (1 * 2 ^ (get_or s.widths j 0 - 1)) % 4294967296 ≡ bias s j
  bias-shifted n m =
      let same = width_of-used s j (marked-lt s j m) in
      let power : 2 ^ (width_of s j - 1) ≡ 2 ^ (get_or s.widths j 0 - 1) = ap (λ w. 2 ^ (w - 1)) same in
      omega (arith, power, bias-marked s j m, bias-lt s n j)

  pub encode-sum : (v : ℕ) → v < 4294967296 → (v + bias s j) % 2 ^ 32 ≡ encode s j v
  encode-sum v l = go (marked s j) refl
    where
      go : (b : Bool) → marked s j ≡ b → (v + bias s j) % 2 ^ 32 ≡ encode s j v
      go true m = sym (encode-marked s j v l m)
      go false m = rw (bias-plain s j m, encode-plain s j v m) (omega arith)

-- ---- four results of calls

module _ (s : Shape) (v0 v1 v2 v3 : ℕ) where
  pub encodings-listed : (values : List ℕ) → v0 ≡ encode s 0 (get_or values 0 0) → v1 ≡ encode s 1 (get_or values 1 0)
      → v2 ≡ encode s 2 (get_or values 2 0) → v3 ≡ encode s 3 (get_or values 3 0)
      → v0 ∷ v1 ∷ v2 ∷ v3 ∷ [] ≡ encodings s values
  unfolding encodings
  encodings-listed values e0 e1 e2 e3 = λ i. e0 i ∷ e1 i ∷ e2 i ∷ e3 i ∷ []

  pub biases-listed : v0 ≡ bias s 0 → v1 ≡ bias s 1 → v2 ≡ bias s 2 → v3 ≡ bias s 3
      → v0 ∷ v1 ∷ v2 ∷ v3 ∷ [] ≡ per_attribute (bias s)
  biases-listed e0 e1 e2 e3 = λ i. e0 i ∷ e1 i ∷ e2 i ∷ e3 i ∷ []

  pub biases-listed-lt : shape_number s ≡ 0 → v0 ∷ v1 ∷ v2 ∷ v3 ∷ [] ≡ per_attribute (bias s)
      → SixteenBits (v0 ∷ v1 ∷ v2 ∷ v3 ∷ [])
  biases-listed-lt n e = subst SixteenBits (unpacked_key-bias_key s n ∙ sym e) (unpacked_key-lt (bias_key s))

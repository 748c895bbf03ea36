-- Laws of packed fields and packed encodings: one from the other by one sum or difference of words with the shape's
-- bias; a record's key from its bytes so, and its bytes from its key. Assumes nothing.
use Prim.Native.Nat.{ℕ, zero, suc, ◌+◌, ◌-◌, ◌%◌, ◌^◌, ◌<◌}
use mathlib.Core.Path.{◌≡◌, sym, ap, ◌∙◌}
use mathlib.Core.List.{List, [], ◌∷◌}
use native.Mathlib.Omega.{arith}
use lib.Dec.{eqb}
use lib.ListN.{get_or}
use borrow.Author.Tests.{eqb-true, eq-eqb}
use Rattle.lists.proofs.Bools.{eq-of-iff}
use Rattle.shape.specs.Shape.{shape_number}
use Rattle.shape.specs.Key.{per_attribute, bias, encode_field, encoded_fields}
use Rattle.shape.specs.declared.Shape.{Shape}
use Rattle.shape.proofs.EncodingLaws.{bias-lt, encode_field-sum}
use Rattle.record.specs.declared.Content.{Content}
use Rattle.record.specs.Bytes.{record_of}
use Rattle.record.specs.Packed.{packed_key, SixteenBits, packed_value, unpacked_key, key_in, packed_bytes}
use Rattle.record.specs.Lanes.{sums, differences, lane_sum, lane_difference, bias_key, fields_key}
use Rattle.record.proofs.ByteLaws.{AreBytes}
use Rattle.record.proofs.CodecLaws.{key-record_of, SixteenBits-record_of, record_of-packed_bytes}
use Rattle.record.proofs.PackedLaws.{packed_key-lt, packed_key-unpacked_key, unpacked_key-packed_key}

-- sums and differences have 16 bits each
sums_lt : (xs ys : List ℕ) → SixteenBits (sums xs ys)
unfolding sums
sums_lt xs ys zero = omega arith
sums_lt xs ys (suc zero) = omega arith
sums_lt xs ys (suc (suc zero)) = omega arith
sums_lt xs ys (suc (suc (suc zero))) = omega arith
sums_lt xs ys (suc (suc (suc (suc j)))) = omega arith

differences-lt : (xs ys : List ℕ) → SixteenBits (differences xs ys)
unfolding differences
differences-lt xs ys zero = omega arith
differences-lt xs ys (suc zero) = omega arith
differences-lt xs ys (suc (suc zero)) = omega arith
differences-lt xs ys (suc (suc (suc zero))) = omega arith
differences-lt xs ys (suc (suc (suc (suc j)))) = omega arith

pub unpacked_key-lane_sum : (x y : ℕ) → unpacked_key (lane_sum x y) ≡ sums (unpacked_key x) (unpacked_key y)
unfolding sums
unpacked_key-lane_sum x y =
    unpacked_key-packed_key (sums (unpacked_key x) (unpacked_key y)) (sums_lt (unpacked_key x) (unpacked_key y))

unpacked_key-lane_difference : (x y : ℕ) → unpacked_key (lane_difference x y) ≡ differences (unpacked_key x) (unpacked_key y)
unfolding differences
unpacked_key-lane_difference x y =
    unpacked_key-packed_key (differences (unpacked_key x) (unpacked_key y)) (differences-lt (unpacked_key x) (unpacked_key y))

-- ---- a shape within its bounds

module _ (s : Shape) (n : shape_number s ≡ 0) where
  biases-lt : SixteenBits (per_attribute (bias s))
  biases-lt zero = bias-lt s n 0
  biases-lt (suc zero) = bias-lt s n 1
  biases-lt (suc (suc zero)) = bias-lt s n 2
  biases-lt (suc (suc (suc zero))) = bias-lt s n 3
  biases-lt (suc (suc (suc (suc j)))) = omega arith

  pub unpacked_key-bias_key : unpacked_key (bias_key s) ≡ per_attribute (bias s)
  unfolding bias_key
  unpacked_key-bias_key = unpacked_key-packed_key (per_attribute (bias s)) biases-lt

  -- packed fields and the bias: their encodings
  pub unpacked_key-encoded : (fields : ℕ) → unpacked_key (lane_sum fields (bias_key s)) ≡ encoded_fields s (unpacked_key fields)
  unfolding sums encoded_fields unpacked_key
  unpacked_key-encoded fields =
      unpacked_key-lane_sum fields (bias_key s) ∙ ap (sums (unpacked_key fields)) unpacked_key-bias_key
      ∙ (λ i. at 0 i ∷ at 1 i ∷ at 2 i ∷ at 3 i ∷ [])
    where
      at : (j : ℕ) → (packed_value fields j + bias s j) % 2 ^ 16 ≡ encode_field s j (packed_value fields j)
      at j = sym (encode_field-sum s j (packed_value fields j) (omega arith))

  -- a record's key, from its bytes
  pub unpacked_key-within : (bytes : List ℕ) → SixteenBits (record_of s bytes).key
      → unpacked_key (lane_sum (key_in bytes) (bias_key s)) ≡ (record_of s bytes).key
  unpacked_key-within bytes b = unpacked_key-encoded (key_in bytes) ∙ sym (key-record_of s bytes b)

  pub unpacked_key-key_in : (bytes : List ℕ) → AreBytes bytes
      → unpacked_key (lane_sum (key_in bytes) (bias_key s)) ≡ (record_of s bytes).key
  unpacked_key-key_in bytes b = unpacked_key-within bytes (SixteenBits-record_of s bytes b)

  -- ---- back

  back : (e h : ℕ) → e < 2 ^ 16 → h < 2 ^ 16 → ((e + (2 ^ 16 - h)) % 2 ^ 16 + h) % 2 ^ 16 ≡ e
  back e h l k = omega arith

  pub encoded_fields-fields_key : (key : ℕ) → encoded_fields s (unpacked_key (fields_key s key)) ≡ unpacked_key key
  unfolding differences encoded_fields unpacked_key
  encoded_fields-fields_key key =
      ap (λ v. per_attribute (λ j. encode_field s j (get_or v j 0)))
      (unpacked_key-lane_difference key (bias_key s) ∙ ap (differences (unpacked_key key)) unpacked_key-bias_key)
      ∙ (λ i. at 0 i ∷ at 1 i ∷ at 2 i ∷ at 3 i ∷ [])
    where
      at : (j : ℕ) → encode_field s j ((packed_value key j + (2 ^ 16 - bias s j)) % 2 ^ 16) ≡ packed_value key j
      at j =
          encode_field-sum s j ((packed_value key j + (2 ^ 16 - bias s j)) % 2 ^ 16) (omega arith)
          ∙ back (packed_value key j) (bias s j) (omega arith) (bias-lt s n j)

  -- a packed key of fields with the bias added and taken again
  again : (f h : ℕ) → f < 2 ^ 16 → h < 2 ^ 16 → ((f + h) % 2 ^ 16 + (2 ^ 16 - h)) % 2 ^ 16 ≡ f
  again f h l k = omega arith

  fields_key-lane_sum : (x : ℕ) → x < 2 ^ 64 → fields_key s (lane_sum x (bias_key s)) ≡ x
  unfolding sums differences unpacked_key
  fields_key-lane_sum x h =
      ap packed_key
      ((λ i. differences (unpacked_key-lane_sum x (bias_key s) i) (unpacked_key-bias_key i))
      ∙ (λ i. differences (sums (unpacked_key x) (unpacked_key-bias_key i)) (per_attribute (bias s)))
      ∙ (λ i. at 0 i ∷ at 1 i ∷ at 2 i ∷ at 3 i ∷ []))
      ∙ packed_key-unpacked_key x h
    where
      at : (j : ℕ) → ((packed_value x j + bias s j) % 2 ^ 16 + (2 ^ 16 - bias s j)) % 2 ^ 16 ≡ packed_value x j
      at j = again (packed_value x j) (bias s j) (omega arith) (bias-lt s n j)

  pub lane_sum-fields_key : (key : ℕ) → key < 2 ^ 64 → lane_sum (fields_key s key) (bias_key s) ≡ key
  lane_sum-fields_key key h =
      sym (packed_key-unpacked_key (lane_sum (fields_key s key) (bias_key s)) (packed_key-lt _ (sums_lt _ _)))
      ∙ ap packed_key (unpacked_key-encoded (fields_key s key) ∙ encoded_fields-fields_key key)
      ∙ packed_key-unpacked_key key h

  -- packed fields are compared as their encodings are
  pub eqb-fields_key : (x key : ℕ) → x < 2 ^ 64 → key < 2 ^ 64
      → eqb x (fields_key s key) ≡ eqb (lane_sum x (bias_key s)) key
  eqb-fields_key x key h l =
      eq-of-iff _ _
      (λ e.
      eq-eqb (lane_sum x (bias_key s)) key
      (ap (λ y. lane_sum y (bias_key s)) (eqb-true x (fields_key s key) e) ∙ lane_sum-fields_key key l))
      (λ e.
      eq-eqb x (fields_key s key)
      (sym (fields_key-lane_sum x h) ∙ ap (fields_key s) (eqb-true (lane_sum x (bias_key s)) key e)))

  -- the packed encodings of a record's bytes
  pub packed_key-record_of : (bytes : List ℕ) → SixteenBits (record_of s bytes).key
      → packed_key (record_of s bytes).key ≡ lane_sum (key_in bytes) (bias_key s)
  packed_key-record_of bytes b =
      ap packed_key (sym (unpacked_key-within bytes b))
      ∙ packed_key-unpacked_key (lane_sum (key_in bytes) (bias_key s)) (packed_key-lt _ (sums_lt _ _))

  pub fields_key-lt : (key : ℕ) → fields_key s key < 2 ^ 64
  fields_key-lt key = packed_key-lt _ (differences-lt (unpacked_key key) (unpacked_key (bias_key s)))

  -- a record written by its packed fields
  pub record_of-fields_key : (key : ℕ) (content : Content) → content.payload < 2 ^ 32
      → record_of s (packed_bytes (fields_key s key) content) ≡ record { key = unpacked_key key; content = content }
  record_of-fields_key key content l =
      record_of-packed_bytes s (fields_key s key) content (fields_key-lt key) l
      ∙ ap (λ k. record { key = k; content = content }) (encoded_fields-fields_key key)

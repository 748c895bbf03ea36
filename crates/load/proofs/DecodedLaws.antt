-- Laws of a record's values, decoded from its bytes: they fit, and have the record's encodings again. Assumes nothing.
use Prim.Native.Nat.{ℕ}
use mathlib.Core.Path.{◌≡◌, sym, ap, ◌∙◌}
use mathlib.Core.Bool.{true}
use mathlib.Core.List.{List, [], ◌∷◌}
use native.Mathlib.Omega.{arith}
use Rattle.shape.specs.Shape.{shape_number, widths_of, index_fits}
use Rattle.shape.specs.Key.{per_attribute, encode, decode, key_fits, encodings}
use Rattle.shape.specs.declared.Shape.{Shape}
use Rattle.shape.proofs.EncodingLaws.{encode-decode}
use Rattle.record.specs.Record.{Record}
use Rattle.record.specs.Bytes.{record_of}
use Rattle.record.specs.Packed.{packed_value, unpacked_key, key_in, content_in}
use Rattle.record.specs.Lanes.{lane_sum, bias_key}
use Rattle.record.proofs.CodecLaws.{record_of-content}
use Rattle.record.proofs.FieldLaws.{unpacked_key-within}
use Rattle.record.proofs.KeyLaws.{key-below-bytes}
use Rattle.model.specs.Sets.{in_shape}
use Rattle.model.specs.Model.{record_for}
use Rattle.model.proofs.SetLaws.{index_fits-encodings, length-of-in_shape, fits-of-in_shape}

-- the values of packed encodings
abbrev pub values_of : Shape → ℕ → List ℕ
values_of s key = per_attribute (λ j. decode s j (packed_value key j))

pub encodings-values_of : (s : Shape) (key : ℕ) → encodings s (values_of s key) ≡ unpacked_key key
unfolding encodings unpacked_key
encodings-values_of s key = λ i. at 0 i ∷ at 1 i ∷ at 2 i ∷ at 3 i ∷ []
  where
    at : (j : ℕ) → encode s j (decode s j (packed_value key j)) ≡ packed_value key j
    at j = encode-decode s j (packed_value key j) (omega arith)

module _ (s : Shape) (n : shape_number s ≡ 0) (bytes : List ℕ) (inside : in_shape s (record_of s bytes) ≡ true) where
  abbrev r : Record
  r = record_of s bytes

  abbrev values : List ℕ
  values = values_of s (lane_sum (key_in bytes) (bias_key s))

  encodings-bytes : encodings s values ≡ r.key
  encodings-bytes =
      encodings-values_of s (lane_sum (key_in bytes) (bias_key s))
      ∙ unpacked_key-within s n bytes
      (key-below-bytes s n r.key (length-of-in_shape s r inside) (fits-of-in_shape s r inside))

  pub key_fits-bytes : key_fits s values ≡ true
  key_fits-bytes =
      sym (index_fits-encodings s values)
      ∙ ap (index_fits (widths_of s)) encodings-bytes
      ∙ fits-of-in_shape s r inside

  pub record_for-bytes : record_for s values (content_in bytes) ≡ record_of s bytes
  record_for-bytes = λ i. record { key = encodings-bytes i; content = sym (record_of-content s bytes) i }

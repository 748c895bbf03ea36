-- Values, encodings and fields in integers are document 02's: the values of an attribute, its fields, the theorem.
-- Assumes nothing.
use Prim.Native.Nat.{ℕ, suc, ◌-◌, ◌%◌, ◌^◌, ◌≤◌, ◌<◌}
use mathlib.Core.Path.{◌≡◌, refl, sym, ap, ◌∙◌}
use mathlib.Core.Logic.{◌⊎◌, inl, inr}
use mathlib.Core.Bool.{Bool, true, false, cond}
use native.Mathlib.Omega.{arith}
use lib.Dec.{ltb, leb}
use lib.IntN.{pos, ◌+ℤ◌, ◌-ℤ◌, +ℤ_idr, -ℤ-+ℤ_cancel}
use lib.Signed.{le_z}
use borrow.Author.Tests.{ltb-true, lt-ltb, le-ltb}
use Rattle.lists.proofs.Bools.{and-only}
use Rattle.lists.proofs.Numbers.{lt-or-le}
use Rattle.shape.specs.Shape.{width_of, shape_number}
use Rattle.shape.specs.Key.{marked, bias, encode, decode, value_fits, encode_field}
use Rattle.shape.specs.Integers.{integer_of, is_signed, is_unsigned, is_value, field_integer, ValuesInIntegers}
use Rattle.shape.specs.declared.Shape.{Shape}
use Rattle.shape.proofs.ComplementLaws.{le_z-minus, integer_of-small, integer_of-large, is_unsigned-pos}
use Rattle.shape.proofs.ComplementLaws.{is_unsigned-negsuc, one_number, sum_fits, sum-integer}
use Rattle.shape.proofs.EncodingLaws.{marked-unused, marked-same, bias-marked, bias-plain, encode-marked}
use Rattle.shape.proofs.EncodingLaws.{encode-plain, encode_field-sum, lt-of-encode, value_fits-encode, encode-lt}
use Rattle.shape.proofs.EncodingLaws.{decode-encode, encode-decode, decode-encode_field, lt-of-encode_field}
use Rattle.shape.proofs.EncodingLaws.{power_le, width-marked, encode_field-value}

module _ (s : Shape) (n : shape_number s ≡ 0) (j : ℕ) where
  abbrev w : ℕ
  w = width_of s j

  -- ---- values

  value-lt : (v : ℕ) → value_fits s j v ≡ true → v < 2 ^ 32
  value-lt v f = lt-of-encode s j v (omega (arith, encode-lt s j v f, power_le s n j))

  value_fits-is_value : (v : ℕ) → v < 2 ^ 32 → value_fits s j v ≡ is_value s j (integer_of 32 v)
  unfolding is_value
  value_fits-is_value v l = value_fits-encode s j v ∙ go (marked s j) refl (lt-or-le v (2 ^ 31))
    where
      go : (b : Bool) → marked s j ≡ b → (v < 2 ^ 31) ⊎ (2 ^ 31 ≤ v)
          → ltb (encode s j v) (2 ^ w)
          ≡ cond (marked s j) (is_signed w (integer_of 32 v)) (is_unsigned w (integer_of 32 v))
      go true m c =
          let r = width-marked s n j m in
          rw (encode-marked s j v l m, bias-marked s j m, m) (sum_fits 32 w v r.0 (omega (arith, r.1)) l)
      go false m (inl g) = rw (encode-plain s j v m, m, integer_of-small 32 v g) (sym (is_unsigned-pos w v))
      go false m (inr g) =
          rw (encode-plain s j v m, m, integer_of-large 32 v g l, is_unsigned-negsuc w (2 ^ 32 - suc v))
          (le-ltb v (2 ^ w) (omega (arith, power_le s n j)))

  -- the value is the encoding less 2^(w-1)
  integer_of-value : (v : ℕ) → value_fits s j v ≡ true → integer_of 32 v ≡ pos (encode s j v) -ℤ pos (bias s j)
  integer_of-value v f = go (marked s j) refl
    where
      go : (b : Bool) → marked s j ≡ b → integer_of 32 v ≡ pos (encode s j v) -ℤ pos (bias s j)
      go true m =
          let r = width-marked s n j m in
          let e = encode-marked s j v (value-lt v f) m in
          let below = rw (e, bias-marked s j m) at (encode-lt s j v f) in
          rw (e, bias-marked s j m) (sum-integer 32 w v r.0 (omega (arith, r.1)) (value-lt v f) below)
      go false m =
          let below = rw (encode-plain s j v m) at (encode-lt s j v f) in
          rw (encode-plain s j v m, bias-plain s j m)
          (integer_of-small 32 v (omega (arith, below, power_le s n j)) ∙ sym (+ℤ_idr (pos v)))

  encoding : (v : ℕ) → value_fits s j v ≡ true → pos (encode s j v) ≡ integer_of 32 v +ℤ pos (bias s j)
  encoding v f =
      sym (-ℤ-+ℤ_cancel (pos (encode s j v)) (pos (bias s j)))
      ∙ ap (λ z. z +ℤ pos (bias s j)) (sym (integer_of-value v f))

  decoding : (e : ℕ) → e < 2 ^ w → (value_fits s j (decode s j e) ≡ true) × (encode s j (decode s j e) ≡ e)
  decoding e l =
      let back = encode-decode s j e (omega (arith, power_le s n j)) in
      (value_fits-encode s j (decode s j e) ∙ rw back (lt-ltb e (2 ^ w) l), back)

  in_order : (v u : ℕ) → value_fits s j v ≡ true → value_fits s j u ≡ true
      → leb (encode s j v) (encode s j u) ≡ le_z (integer_of 32 v) (integer_of 32 u)
  in_order v u f g =
      rw (integer_of-value v f, integer_of-value u g) (sym (le_z-minus (bias s j) (encode s j v) (encode s j u)))

  -- ---- fields

  field_lt : (f : ℕ) → ltb (encode_field s j f) (2 ^ w) ≡ true → f < 2 ^ 16
  field_lt f b =
      lt-of-encode_field s j f (omega (arith, ltb-true (encode_field s j f) (2 ^ w) b, power_le s n j))

  encode_field-plain : (f : ℕ) → f < 2 ^ 16 → marked s j ≡ false → encode_field s j f ≡ f
  encode_field-plain f l m = encode_field-sum s j f l ∙ rw (bias-plain s j m) (omega arith)

  encode_field-is_value : (f : ℕ) → f < 2 ^ 16 → ltb (encode_field s j f) (2 ^ w) ≡ is_value s j (field_integer s j f)
  unfolding is_value field_integer
  encode_field-is_value f l = go (marked s j) refl
    where
      go : (b : Bool) → marked s j ≡ b
          → ltb (encode_field s j f) (2 ^ w)
          ≡ cond (marked s j) (is_signed w (cond (marked s j) (integer_of 16 f) (pos f)))
          (is_unsigned w (cond (marked s j) (integer_of 16 f) (pos f)))
      go true m =
          let r = width-marked s n j m in
          rw (encode_field-sum s j f l, bias-marked s j m, m) (sum_fits 16 w f r.0 r.1 l)
      go false m = rw (encode_field-plain f l m, m) (sym (is_unsigned-pos w f))

  field_integer-encode_field : (f : ℕ) → f < 2 ^ 16 → encode_field s j f < 2 ^ w
      → field_integer s j f ≡ pos (encode_field s j f) -ℤ pos (bias s j)
  unfolding field_integer
  field_integer-encode_field f l below = go (marked s j) refl
    where
      go : (b : Bool) → marked s j ≡ b
          → cond (marked s j) (integer_of 16 f) (pos f) ≡ pos (encode_field s j f) -ℤ pos (bias s j)
      go true m =
          let r = width-marked s n j m in
          let e = encode_field-sum s j f l in
          rw (m, e, bias-marked s j m) (sum-integer 16 w f r.0 r.1 l (rw (e, bias-marked s j m) at below))
      go false m = rw (m, encode_field-plain f l m, bias-plain s j m) (sym (+ℤ_idr (pos f)))

  field : (v : ℕ) → value_fits s j v ≡ true → field_integer s j (v % 2 ^ 16) ≡ integer_of 32 v
  field v f =
      let same = encode_field-value s n j v f in
      field_integer-encode_field (v % 2 ^ 16) (omega arith) (omega (arith, same, encode-lt s j v f))
      ∙ ap (λ e. pos e -ℤ pos (bias s j)) same
      ∙ sym (integer_of-value v f)

-- ---- the theorem

pub values-in-integers : (s : Shape) → shape_number s ≡ 0 → (j : ℕ) → ValuesInIntegers s j
values-in-integers s n j =
    record {
      one_number = one_number;
      fits =
          λ v.
          and-only (value_fits s j v) (ltb v (2 ^ 32)) _ (λ f. lt-ltb v (2 ^ 32) (value-lt s n j v f))
          (λ l. value_fits-is_value s n j v (ltb-true v (2 ^ 32) l));
      encoding = encoding s n j;
      encoding-below = encode-lt s j;
      decoding = decoding s n j;
      decoding-encoding = λ v f. decode-encode s j v (value-lt s n j v f);
      in_order = in_order s n j;
      field = field s n j;
      field-encoding = encode_field-value s n j;
      field_fits =
          λ f.
          and-only (ltb (encode_field s j f) (2 ^ width_of s j)) (ltb f (2 ^ 16)) _
          (λ b. lt-ltb f (2 ^ 16) (field_lt s n j f b))
          (λ l. encode_field-is_value s n j f (ltb-true f (2 ^ 16) l));
      field-decoding = decode-encode_field s j;
      unused-mark = marked-unused s j;
      same-marks = marked-same s j;
    }

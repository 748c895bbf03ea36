-- Values, encodings and fields in integers (document 02, request 4): what they stand for, and what holds of them.
-- Assumes nothing.
use Rattle.std.specs.Prelude.{ℕ, ◌-◌, ◌%◌, ◌^◌, ◌≤◌, ◌<◌, ◌≡◌, Bool, true, false, cond, ◌&&◌, ltb, leb, ℤ, pos, neg_ℤ, ◌+ℤ◌, ◌-ℤ◌}
use Rattle.std.specs.Int.Signed.{le_z}
use Rattle.shape.specs.Shape.{width_of}
use Rattle.shape.specs.Key.{marked, bias, encode, decode, value_fits, encode_field}
use Rattle.shape.specs.declared.Shape.{Shape}

-- ---- two's complement

-- the integer that a number of k bits stands for: itself below 2^(k-1), else the number less 2^k. Of 16 bits, 0xfe00
-- is -512 and 0x0200 is 512; of 32 bits, 2^32 - 1 is -1
unfoldable pub integer_of : ℕ → ℕ → ℤ
integer_of k v = cond (ltb v (2 ^ (k - 1))) (pos v) (pos v -ℤ pos (2 ^ k))

-- ---- bounds

-- from low to high, both included
abbrev pub between : ℤ → ℤ → ℤ → Bool
between low high z = le_z low z && le_z z high

-- "from −2^(w−1) to 2^(w−1) − 1": of 10 bits, -512 to 511
unfoldable pub is_signed : ℕ → ℤ → Bool
is_signed w z = between (neg_ℤ (pos (2 ^ (w - 1)))) (pos (2 ^ (w - 1) - 1)) z

-- "a whole number below 2^w_j": of 10 bits, 0 to 1023
unfoldable pub is_unsigned : ℕ → ℤ → Bool
is_unsigned w z = between (pos 0) (pos (2 ^ w - 1)) z

-- the values of attribute j
unfoldable pub is_value : Shape → ℕ → ℤ → Bool
is_value s j z = cond (marked s j) (is_signed (width_of s j) z) (is_unsigned (width_of s j) z)

-- ---- fields

-- the integer that a field of 16 bits stands for: of a marked attribute "in 16-bit two's complement", of any other the
-- number itself. At width 10 and marked, 0xfe00 is -512, and 0x0200 is 512, which is no value
unfoldable pub field_integer : Shape → ℕ → ℕ → ℤ
field_integer s j f = cond (marked s j) (integer_of 16 f) (pos f)

-- ---- the theorem

-- what holds of attribute j of a shape within its bounds
pub record ValuesInIntegers (s : Shape) (j : ℕ) : Type 0 where
  -- each integer from −2^(k−1) to 2^(k−1) − 1 is that of exactly one number of k bits; values have 32, fields 16
  pub one_number : (k : ℕ) → 1 ≤ k → (z : ℤ) → is_signed k z ≡ true
      → (v : ℕ) × (v < 2 ^ k) × (integer_of k v ≡ z) × ((u : ℕ) → u < 2 ^ k → integer_of k u ≡ z → u ≡ v)
  -- "Number 3 uses these bounds for values of a marked attribute ..; any other value below 0 gets it too": a number
  -- fits exactly if it is below 2^32 and its integer is within the bounds
  pub fits : (v : ℕ) → value_fits s j v ≡ (ltb v (2 ^ 32) && is_value s j (integer_of 32 v))
  -- "its encoding is the value plus 2^(w−1)", or the value itself where there is no mark; it is below 2^w
  pub encoding : (v : ℕ) → value_fits s j v ≡ true → pos (encode s j v) ≡ integer_of 32 v +ℤ pos (bias s j)
  pub encoding-below : (v : ℕ) → value_fits s j v ≡ true → encode s j v < 2 ^ width_of s j
  -- and each number below 2^w is the encoding of exactly one value
  pub decoding : (e : ℕ) → e < 2 ^ width_of s j
      → (value_fits s j (decode s j e) ≡ true) × (encode s j (decode s j e) ≡ e)
  pub decoding-encoding : (v : ℕ) → value_fits s j v ≡ true → decode s j (encode s j v) ≡ v
  -- "Split order .. go by encodings", and so does number 10: their order is that of the values
  pub in_order : (v u : ℕ) → value_fits s j v ≡ true → value_fits s j u ≡ true
      → leb (encode s j v) (encode s j u) ≡ le_z (integer_of 32 v) (integer_of 32 u)
  -- "Pages and output hold the value in 16-bit two's complement": its low 16 bits, which give its encoding again
  pub field : (v : ℕ) → value_fits s j v ≡ true → field_integer s j (v % 2 ^ 16) ≡ integer_of 32 v
  pub field-encoding : (v : ℕ) → value_fits s j v ≡ true → encode_field s j (v % 2 ^ 16) ≡ encode s j v
  -- and a number is the field of a value exactly if it is below 2^16 and its integer is within the bounds
  pub field_fits : (f : ℕ)
      → ltb (encode_field s j f) (2 ^ width_of s j) ≡ (ltb f (2 ^ 16) && is_value s j (field_integer s j f))
  pub field-decoding : (f : ℕ) → f < 2 ^ 16 → decode s j (encode_field s j f) % 2 ^ 16 ≡ f
  -- "A mark past d is ignored": no attribute there is marked, and shapes that differ in such marks alone mark the same
  pub unused-mark : s.attributes ≤ j → marked s j ≡ false
  pub same-marks : (t : Shape) → t.attributes ≡ s.attributes
      → t.signs % 2 ^ s.attributes ≡ s.signs % 2 ^ s.attributes → marked t j ≡ marked s j

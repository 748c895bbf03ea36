-- Laws of records and their packed keys: which bytes a packed key and a content make, read by offset and read again.
-- Assumes nothing.
use Prim.Native.Nat.{ℕ, zero, suc, ◌+◌, ◌*◌, ◌/◌, ◌%◌, ◌^◌, ◌≤◌, ◌<◌}
use mathlib.Core.Path.{◌≡◌, refl, sym, ap, ◌∙◌, subst}
use mathlib.Core.List.{List, [], ◌∷◌, ◌++◌}
use native.Mathlib.Omega.{arith}
use lib.ListN.{length, get_or}
use lib.Seq.{paste}
use Rattle.moves.proofs.PasteLaws.{paste-paste}
use Rattle.shape.specs.Key.{per_attribute, encode_field, encoded_fields}
use Rattle.shape.specs.declared.Shape.{Shape}
use Rattle.shape.proofs.EncodingLaws.{lt-of-encode_field}
use Rattle.record.specs.declared.Content.{Content}
use Rattle.record.specs.Bytes.{record_size, little_endian, number_of, field, record_of}
use Rattle.record.specs.Packed.{SixteenBits, unpacked_key, key_in, content_in, packed_bytes}
use Rattle.record.proofs.PackedLaws.{field-field, packed_key-lt, packed_key-bytes, unpacked_key-packed_key}
use Rattle.record.proofs.ByteLaws.{AreBytes, number_of-little_endian-two, fits_bytes-record_of}

-- ---- reading and writing by offset

pub content_in-field : (bytes : List ℕ) (at : ℕ)
    → content_in (field bytes at record_size) ≡ record { payload = number_of (field bytes (at + 8) 4) }
content_in-field bytes at = ap (λ l. record { payload = number_of l }) (field-field bytes at record_size 8 4 (omega arith))

pub length-packed_bytes : (key : ℕ) (content : Content) → length (packed_bytes key content) ≡ record_size
unfolding packed_bytes
length-packed_bytes key content = refl

pub paste-packed_bytes : (bytes b c : List ℕ) (at key : ℕ) (content : Content) → at + record_size ≤ length bytes
    → b ≡ paste bytes at (little_endian 8 key) 8 → c ≡ paste b (at + 8) (little_endian 4 content.payload) 4
    → c ≡ paste bytes at (packed_bytes key content) record_size
unfolding packed_bytes
paste-packed_bytes bytes b c at key content h e f =
    f
    ∙ ap (λ l. paste l (at + 8) (little_endian 4 content.payload) 4) e
    ∙ paste-paste bytes at (little_endian 8 key) (little_endian 4 content.payload) 8 4 refl (omega arith) (omega arith)

-- ---- numbers

-- a number, written and read again
number_of-little_endian-four : (x : ℕ) → x < 2 ^ 32 → number_of (little_endian 4 x) ≡ x
number_of-little_endian-four x h = omega arith

-- ---- records by their packed keys

little_endian-above : (n v x : ℕ) → v < 2 ^ 16
    → little_endian 2 v ++ little_endian n x ≡ little_endian (suc (suc n)) (v + 2 ^ 16 * x)
little_endian-above n v x h =
    let low : (v + 2 ^ 16 * x) % 256 ≡ v % 256 = omega arith in
    let upper : (v + 2 ^ 16 * x) / 256 ≡ v / 256 + 256 * x = omega arith in
    let mid : (v / 256 + 256 * x) % 256 ≡ v / 256 % 256 = omega arith in
    let high : (v / 256 + 256 * x) / 256 ≡ x = omega arith in
    sym
    (ap (λ y. (v + 2 ^ 16 * x) % 256 ∷ y % 256 ∷ little_endian n (y / 256)) upper
    ∙ (λ i. low i ∷ mid i ∷ little_endian n (high i)))

module _ (s : Shape) where
  pub record_of-content : (bytes : List ℕ) → (record_of s bytes).content ≡ content_in bytes
  unfolding record_of
  record_of-content bytes = refl

  pub SixteenBits-record_of : (bytes : List ℕ) → AreBytes bytes → SixteenBits (record_of s bytes).key
  SixteenBits-record_of bytes b = (fits_bytes-record_of s bytes b).below

  -- ---- fields whose encodings have 16 bits

  abbrev fields_in : List ℕ → List ℕ
  fields_in bytes = per_attribute (λ j. number_of (field bytes (2 * j) 2))

  fields_in-lt : (bytes : List ℕ) → SixteenBits (record_of s bytes).key → SixteenBits (fields_in bytes)
  unfolding record_of
  fields_in-lt bytes b zero = lt-of-encode_field s 0 _ (b 0)
  fields_in-lt bytes b (suc zero) = lt-of-encode_field s 1 _ (b 1)
  fields_in-lt bytes b (suc (suc zero)) = lt-of-encode_field s 2 _ (b 2)
  fields_in-lt bytes b (suc (suc (suc zero))) = lt-of-encode_field s 3 _ (b 3)
  fields_in-lt bytes b (suc (suc (suc (suc j)))) = omega arith

  pub key_in-lt : (bytes : List ℕ) → SixteenBits (record_of s bytes).key → key_in bytes < 2 ^ 64
  key_in-lt bytes b =
      subst (λ k. k < 2 ^ 64) (packed_key-bytes bytes) (packed_key-lt (fields_in bytes) (fields_in-lt bytes b))

  -- a record's key, as encodings of its fields
  pub key-record_of : (bytes : List ℕ) → SixteenBits (record_of s bytes).key
      → (record_of s bytes).key ≡ encoded_fields s (unpacked_key (key_in bytes))
  unfolding record_of encoded_fields
  key-record_of bytes b =
      ap (λ v. per_attribute (λ j. encode_field s j (get_or v j 0)))
      (sym (unpacked_key-packed_key (fields_in bytes) (fields_in-lt bytes b)) ∙ ap unpacked_key (packed_key-bytes bytes))

  -- ---- the record that was written, read again

  pub record_of-packed_bytes : (key : ℕ) (content : Content) → key < 2 ^ 64 → content.payload < 2 ^ 32
      → record_of s (packed_bytes key content) ≡ record { key = encoded_fields s (unpacked_key key); content = content }
  unfolding record_of encoded_fields packed_bytes unpacked_key
  record_of-packed_bytes key content h l =
      let one : key / 256 / 256 ≡ key / 2 ^ 16 = omega arith in
      let two : key / 256 / 256 / 256 / 256 ≡ key / 2 ^ 32 = omega arith in
      let three : key / 256 / 256 / 256 / 256 / 256 / 256 ≡ key / 2 ^ 48 = omega arith in
      let v0 : number_of (little_endian 2 key) ≡ key / 2 ^ 0 % 2 ^ 16 = omega arith in
      let v1 = ap (λ x. number_of (little_endian 2 x)) one ∙ number_of-little_endian-two (key / 2 ^ 16) in
      let v2 = ap (λ x. number_of (little_endian 2 x)) two ∙ number_of-little_endian-two (key / 2 ^ 32) in
      let v3 = ap (λ x. number_of (little_endian 2 x)) three ∙ number_of-little_endian-two (key / 2 ^ 48) in
      let p = number_of-little_endian-four content.payload l in
      λ i. record {
        key =
            encode_field s 0 (v0 i) ∷ encode_field s 1 (v1 i) ∷ encode_field s 2 (v2 i) ∷ encode_field s 3 (v3 i) ∷ [];
        content = record { payload = p i };
      }

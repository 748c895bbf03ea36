-- Laws of a page's bytes: the number in two bytes; the encodings of a record's fields; packed encodings. Assumes
-- nothing.
use Prim.Native.Nat.{ℕ, zero, suc, ◌+◌, ◌*◌, ◌%◌, ◌^◌, ◌<◌}
use mathlib.Core.Path.{◌≡◌, refl, sym, ap, ◌∙◌}
use mathlib.Core.List.{List, [], ◌∷◌}
use native.Mathlib.Omega.{arith}
use native.Mathlib.Nat.{add-zero, add_assoc}
use lib.ListN.{get_or, take, drop}
use lib.Seq.{get_or-take, get_or-drop}
use borrow.Author.Tests.{lt-ltb}
use Rattle.shape.specs.Key.{bias, biased, encode_field}
use Rattle.shape.specs.Shape.{shape_number}
use Rattle.shape.specs.declared.Shape.{Shape}
use Rattle.shape.proofs.AttributeLaws.{get_d-per_attribute}
use Rattle.record.specs.Bytes.{record_size, number_of, field, record_of}
use Rattle.record.specs.Lanes.{sums, bias_key}
use Rattle.record.specs.Packed.{packed_key, SixteenBits, packed_value, unpacked_key}
use Rattle.record.proofs.ByteLaws.{AreBytes}
use Rattle.record.proofs.FieldLaws.{unpacked_key-lane_sum, unpacked_key-bias_key}
use Rattle.record.proofs.PackedLaws.{packed_key-bytes, unpacked_key-packed_key}
use Rattle.page.specs.Fields as fields
use Rattle.page.specs.Fields.{record_offset, record_field}
use Rattle.check_page.specs.PageTest.{fields_at, encodings_at}

-- ---- two bytes

number_of-two : (xs : List ℕ) → number_of (take 2 xs) ≡ get_or xs 0 0 + get_or xs 1 0 * 256
number_of-two [] = refl
number_of-two (x ∷ []) = omega arith
number_of-two (x ∷ y ∷ xs) = omega arith

pub number_of-field-two : (page : List ℕ) (at : ℕ)
    → number_of (field page at 2) ≡ get_or page at 0 + get_or page (at + 1) 0 * 256
number_of-field-two page at =
    number_of-two (drop at page) ∙ rw (get_or-drop at page 0 0, get_or-drop at page 1 0, add-zero at)

-- ---- a record's key

-- a field of a field
field-field : (page : List ℕ) (at o : ℕ) → o + 1 < record_size
    → number_of (field (field page at record_size) o 2) ≡ number_of (field page (at + o) 2)
field-field page at o h =
    let one : (i : ℕ) → o + i < record_size → get_or (field page at record_size) (o + i) 0 ≡ get_or page (at + o + i) 0 =
    λ i l. get_or-take record_size (drop at page) (o + i) 0 l ∙ get_or-drop at page (o + i) 0
    ∙ ap (λ x. get_or page x 0) (sym (add_assoc at o i)) in
    let first : get_or (field page at record_size) o 0 ≡ get_or page (at + o) 0 =
    ap (λ x. get_or (field page at record_size) x 0) (sym (add-zero o)) ∙ one 0 (omega arith)
    ∙ ap (λ x. get_or page x 0) (add-zero (at + o)) in
    number_of-field-two (field page at record_size) o
    ∙ ap (λ x. x + get_or (field page at record_size) (o + 1) 0 * 256) first
    ∙ ap (λ x. get_or page (at + o) 0 + x * 256) (one 1 h)
    ∙ sym (number_of-field-two page (at + o))

pub key-record_of : (s : Shape) → shape_number s ≡ 0 → (page : List ℕ) (at : ℕ)
    → (record_of s (field page at record_size)).key ≡ encodings_at (bias_key s) page at
unfolding record_of encode_field unpacked_key
key-record_of s good page at =
    let added : (j : ℕ) → j < 4 → bias s j ≡ packed_value (bias_key s) j =
    λ j l. sym (get_d-per_attribute (bias s) 0 j l) ∙ ap (λ hs. get_or hs j 0) (sym (unpacked_key-bias_key s good))
    ∙ get_d-per_attribute (packed_value (bias_key s)) 0 j l in
    (λ i.
    biased (added 0 (omega arith) i) (field-field page at 0 (omega arith) i)
    ∷ biased (added 1 (omega arith) i) (field-field page at 2 (omega arith) i)
    ∷ biased (added 2 (omega arith) i) (field-field page at 4 (omega arith) i)
    ∷ biased (added 3 (omega arith) i) (field-field page at 6 (omega arith) i)
    ∷ [])

-- its packed encodings
module _ (page : List ℕ) (bytes : AreBytes page) where
  fields_at-lt : (at : ℕ) → SixteenBits (fields_at page at)
  fields_at-lt at = go
    where
      below : (o : ℕ) → number_of (field page o 2) < 2 ^ 16
      below o = omega (arith, number_of-field-two page o, bytes o, bytes (o + 1))

      go : SixteenBits (fields_at page at)
      go zero = below (at + 2 * 0)
      go (suc zero) = below (at + 2 * 1)
      go (suc (suc zero)) = below (at + 2 * 2)
      go (suc (suc (suc zero))) = below (at + 2 * 3)
      go (suc (suc (suc (suc j)))) = omega arith

  unpacked_key-key_at : (i : ℕ) → unpacked_key (fields.key_at page i) ≡ fields_at page (record_offset i)
  unpacked_key-key_at i =
      let at = record_offset i in
      ap unpacked_key
      (sym (packed_key-bytes (record_field page i))
      ∙ (λ k.
      packed_key
      (field-field page at 0 (omega arith) k ∷ field-field page at 2 (omega arith) k
      ∷ field-field page at 4 (omega arith) k ∷ field-field page at 6 (omega arith) k ∷ [])))
      ∙ unpacked_key-packed_key (fields_at page at) (fields_at-lt at)

  biased-field : (h f : ℕ) → f < 2 ^ 16 → (f + h) % 2 ^ 16 ≡ biased h f
  biased-field h f l = rw (lt-ltb f (2 ^ 16) l)

  pub unpacked_key-code_at : (bias i : ℕ)
      → unpacked_key (fields.code_at bias page i) ≡ encodings_at bias page (record_offset i)
  unfolding sums unpacked_key
  unpacked_key-code_at bias i =
      let at = record_offset i in
      let one : (j : ℕ) → (get_or (fields_at page at) j 0 + packed_value bias j) % 2 ^ 16
      ≡ biased (packed_value bias j) (get_or (fields_at page at) j 0) =
      λ j. biased-field (packed_value bias j) (get_or (fields_at page at) j 0) (fields_at-lt at j) in
      unpacked_key-lane_sum (fields.key_at page i) bias
      ∙ ap (λ v. sums v (unpacked_key bias)) (unpacked_key-key_at i)
      ∙ (λ k. one 0 k ∷ one 1 k ∷ one 2 k ∷ one 3 k ∷ [])

  -- without a bias the fields are the encodings
  pub unpacked_key-key_at-zero : (i : ℕ) → unpacked_key (fields.key_at page i) ≡ encodings_at 0 page (record_offset i)
  unpacked_key-key_at-zero i =
      let at = record_offset i in
      let one : (j : ℕ) → get_or (fields_at page at) j 0 ≡ biased 0 (get_or (fields_at page at) j 0) =
      λ j. omega (arith, fields_at-lt at j) ∙ biased-field 0 (get_or (fields_at page at) j 0) (fields_at-lt at j) in
      unpacked_key-key_at i ∙ (λ k. one 0 k ∷ one 1 k ∷ one 2 k ∷ one 3 k ∷ [])

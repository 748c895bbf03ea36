-- Laws of bytes: numbers and records written and read back, read and written back; lengths. Assumes nothing.
use Prim.Native.Nat.{ℕ, zero, suc, ◌+◌, ◌*◌, ◌/◌, ◌%◌, ◌^◌, ◌≤◌, ◌<◌}
use mathlib.Core.Path.{◌≡◌, refl, sym, ap, ◌∙◌}
use mathlib.Core.List.{List, [], ◌∷◌, ◌++◌, append_assoc}
use native.Mathlib.Omega.{arith}
use native.Mathlib.Nat.{one-le-pow, pow-zero, pow-succ'}
use lib.ListN.{length, get_or, take, drop, length-append, length-drop}
use lib.Seq.{length-take-le, take_all, take-add, drop-drop, get_or-drop}
use Rattle.shape.specs.Key.{decode, encode_field}
use Rattle.shape.specs.declared.Shape.{Shape}
use Rattle.shape.proofs.AttributeLaws.{per_attribute-get_d}
use Rattle.shape.proofs.EncodingLaws.{encode_field-decode, decode-encode_field, encode_field-lt}
use Rattle.record.specs.Record.{Record}
use Rattle.record.specs.Bytes.{record_size, little_endian, number_of, field, record_bytes, record_of, records_bytes}

-- what a slice of bytes holds
abbrev pub AreBytes : List ℕ → Type 0
AreBytes xs = (i : ℕ) → get_or xs i 0 < 256

AreBytes-take : (n : ℕ) (xs : List ℕ) → AreBytes xs → AreBytes (take n xs)
AreBytes-take zero xs h i = omega arith
AreBytes-take (suc n) [] h i = omega arith
AreBytes-take (suc n) (x ∷ xs) h zero = h 0
AreBytes-take (suc n) (x ∷ xs) h (suc i) = AreBytes-take n xs (λ m. h (suc m)) i

AreBytes-drop : (n : ℕ) (xs : List ℕ) → AreBytes xs → AreBytes (drop n xs)
AreBytes-drop n xs h i = rw (get_or-drop n xs i 0) (h (n + i))

pub AreBytes-append : (xs ys : List ℕ) → AreBytes xs → AreBytes ys → AreBytes (xs ++ ys)
AreBytes-append [] ys h k i = k i
AreBytes-append (x ∷ xs) ys h k zero = h 0
AreBytes-append (x ∷ xs) ys h k (suc i) = AreBytes-append xs ys (λ m. h (suc m)) k i

pub AreBytes-field : (xs : List ℕ) (offset n : ℕ) → AreBytes xs → AreBytes (field xs offset n)
AreBytes-field xs offset n h = AreBytes-take n (drop offset xs) (AreBytes-drop offset xs h)

-- ---- numbers

pub AreBytes-little_endian : (n v : ℕ) → AreBytes (little_endian n v)
AreBytes-little_endian zero v i = omega arith
AreBytes-little_endian (suc n) v zero = omega arith
AreBytes-little_endian (suc n) v (suc i) = AreBytes-little_endian n (v / 256) i

pub length-little_endian : (n v : ℕ) → length (little_endian n v) ≡ n
length-little_endian zero v = refl
length-little_endian (suc n) v = ap suc (length-little_endian n (v / 256))

pub number_of-little_endian : (n v : ℕ) → v < 256 ^ n → number_of (little_endian n v) ≡ v
number_of-little_endian zero v h = omega (arith, pow-zero 256)
number_of-little_endian (suc n) v h =
    omega (arith, number_of-little_endian n (v / 256) (omega (arith, pow-succ' 256 n)))

low : (x y : ℕ) → x < 256 → (x + 256 * y) % 256 ≡ x
low x y h = omega arith

high : (x y : ℕ) → x < 256 → (x + 256 * y) / 256 ≡ y
high x y h = omega arith

pub little_endian-number_of : (xs : List ℕ) → AreBytes xs → little_endian (length xs) (number_of xs) ≡ xs
little_endian-number_of [] h = refl
little_endian-number_of (x ∷ xs) h =
    rw (low x (number_of xs) (h 0), high x (number_of xs) (h 0))
    (ap (λ ys. x ∷ ys) (little_endian-number_of xs (λ i. h (suc i))))

number_of-take-lt : (n : ℕ) (xs : List ℕ) → AreBytes xs → number_of (take n xs) < 256 ^ n
number_of-take-lt zero xs h = omega (arith, pow-zero 256)
number_of-take-lt (suc n) [] h = one-le-pow (suc n) 256 (omega arith)
number_of-take-lt (suc n) (x ∷ xs) h = omega (arith, h 0, number_of-take-lt n xs (λ i. h (suc i)), pow-succ' 256 n)

-- ---- fields

module _ (xs : List ℕ) where
  pub length-field : (offset n : ℕ) → offset + n ≤ length xs → length (field xs offset n) ≡ n
  length-field offset n h = length-take-le n (drop offset xs) (omega (arith, length-drop offset xs))

  pub little_endian-number_of-field : AreBytes xs → (offset n : ℕ) → offset + n ≤ length xs
      → little_endian n (number_of (field xs offset n)) ≡ field xs offset n
  little_endian-number_of-field b offset n h =
      ap (λ m. little_endian m (number_of (field xs offset n))) (sym (length-field offset n h))
      ∙ little_endian-number_of (field xs offset n) (AreBytes-field xs offset n b)

  pub number_of-field-lt : AreBytes xs → (offset n : ℕ) → number_of (field xs offset n) < 256 ^ n
  number_of-field-lt b offset n = number_of-take-lt n (drop offset xs) (AreBytes-drop offset xs b)

  -- a field and the one behind it
  pub field-append-field : (offset n m : ℕ) → field xs offset n ++ field xs (offset + n) m ≡ field xs offset (n + m)
  field-append-field offset n m =
      ap (λ ys. field xs offset n ++ take m ys) (sym (drop-drop n offset xs)) ∙ sym (take-add n m (drop offset xs))

-- ---- one record

module _ (s : Shape) where
  pub length-record_bytes : (r : Record) → length (record_bytes s r) ≡ record_size
  unfolding record_bytes
  length-record_bytes r = refl

  AreBytes-record_bytes : (r : Record) → AreBytes (record_bytes s r)
  unfolding record_bytes
  AreBytes-record_bytes r =
      let value : ℕ → List ℕ = λ j. little_endian 2 (decode s j (get_or r.key j 0)) in
      let payload : List ℕ = little_endian 4 r.content.payload in
      let more : (j : ℕ) (rest : List ℕ) → AreBytes rest → AreBytes (value j ++ rest) =
      λ j rest. AreBytes-append (value j) rest (AreBytes-little_endian 2 (decode s j (get_or r.key j 0))) in
      more 0 (value 1 ++ (value 2 ++ (value 3 ++ payload)))
      (more 1 (value 2 ++ (value 3 ++ payload))
      (more 2 (value 3 ++ payload) (more 3 payload (AreBytes-little_endian 4 r.content.payload))))

-- what its bytes can hold: four key numbers of 16 bits and a payload of 32
pub record FitsBytes (r : Record) : Type 0 where
  pub numbers : length r.key ≡ 4
  pub below : (j : ℕ) → get_or r.key j 0 < 2 ^ 16
  pub payload-below : r.content.payload < 2 ^ 32

-- a field's 16 bits, written and read again
pub number_of-little_endian-two : (x : ℕ) → number_of (little_endian 2 x) ≡ x % 2 ^ 16
number_of-little_endian-two x = omega arith

-- of a greater number the low 16 bits are written
little_endian-low : (x : ℕ) → little_endian 2 x ≡ little_endian 2 (x % 2 ^ 16)
little_endian-low x =
    let first : x % 256 ≡ x % 2 ^ 16 % 256 = omega arith in
    let above : x / 256 ≡ x % 2 ^ 16 / 256 + 256 * (x / 2 ^ 16) = omega arith in
    let lower : (y z : ℕ) → (y + 256 * z) % 256 ≡ y % 256 = λ y z. omega arith in
    let second = ap (λ y. y % 256) above ∙ lower (x % 2 ^ 16 / 256) (x / 2 ^ 16) in
    λ i. first i ∷ second i ∷ []

module _ (s : Shape) where
  -- an encoding as a field, and back
  encoding-back : (j e : ℕ) → e < 2 ^ 16 → encode_field s j (number_of (little_endian 2 (decode s j e))) ≡ e
  encoding-back j e l = ap (encode_field s j) (number_of-little_endian-two (decode s j e)) ∙ encode_field-decode s j e l

  field_back : (j f : ℕ) → f < 2 ^ 16 → little_endian 2 (decode s j (encode_field s j f)) ≡ little_endian 2 f
  field_back j f l =
      little_endian-low (decode s j (encode_field s j f)) ∙ ap (little_endian 2) (decode-encode_field s j f l)

  pub record_of-record_bytes : (r : Record) → FitsBytes r → record_of s (record_bytes s r) ≡ r
  unfolding record_of record_bytes
  record_of-record_bytes r f =
      (λ i. record {
        key =
            encoding-back 0 (get_or r.key 0 0) (f.below 0) i
            ∷ encoding-back 1 (get_or r.key 1 0) (f.below 1) i
            ∷ encoding-back 2 (get_or r.key 2 0) (f.below 2) i
            ∷ encoding-back 3 (get_or r.key 3 0) (f.below 3) i
            ∷ [];
        content = record { payload = number_of-little_endian 4 r.content.payload f.payload-below i };
      })
      ∙ ap (λ key. record { key = key; content = r.content }) (per_attribute-get_d 0 r.key f.numbers)

  pub record_bytes-record_of : (bytes : List ℕ) → AreBytes bytes → length bytes ≡ record_size
      → record_bytes s (record_of s bytes) ≡ bytes
  unfolding record_of record_bytes
  record_bytes-record_of bytes b e =
      let back : (offset n : ℕ) → offset + n ≤ record_size
      → little_endian n (number_of (field bytes offset n)) ≡ field bytes offset n =
      λ offset n h. little_endian-number_of-field bytes b offset n (omega arith) in
      let value : (j : ℕ) → 2 * j + 2 ≤ record_size
      → little_endian 2 (decode s j (encode_field s j (number_of (field bytes (2 * j) 2)))) ≡ field bytes (2 * j) 2 =
      λ j h. field_back j _ (number_of-field-lt bytes b (2 * j) 2) ∙ back (2 * j) 2 h in
      let last : field bytes 6 2 ++ field bytes 8 4 ≡ field bytes 6 6 = field-append-field bytes 6 2 4 in
      let from-4 : field bytes 4 2 ++ field bytes 6 6 ≡ field bytes 4 8 = field-append-field bytes 4 2 6 in
      let from-2 : field bytes 2 2 ++ field bytes 4 8 ≡ field bytes 2 10 = field-append-field bytes 2 2 8 in
      (λ i.
      value 0 (omega arith) i
      ++ (value 1 (omega arith) i
      ++ (value 2 (omega arith) i ++ (value 3 (omega arith) i ++ back 8 4 (omega arith) i))))
      ∙ ap (λ ys. field bytes 0 2 ++ (field bytes 2 2 ++ (field bytes 4 2 ++ ys))) last
      ∙ ap (λ ys. field bytes 0 2 ++ (field bytes 2 2 ++ ys)) from-4
      ∙ ap (λ ys. field bytes 0 2 ++ ys) from-2
      ∙ field-append-field bytes 0 2 10
      ∙ take_all record_size bytes (omega arith)

  -- what is read fits again
  pub fits_bytes-record_of : (bytes : List ℕ) → AreBytes bytes → FitsBytes (record_of s bytes)
  unfolding record_of
  fits_bytes-record_of bytes b = record {
    numbers = refl;
    below = below;
    payload-below = number_of-field-lt bytes b 8 4;
  }
    where
      below : (j : ℕ) → get_or (record_of s bytes).key j 0 < 2 ^ 16
      below zero = encode_field-lt s 0 _ (number_of-field-lt bytes b 0 2)
      below (suc zero) = encode_field-lt s 1 _ (number_of-field-lt bytes b 2 2)
      below (suc (suc zero)) = encode_field-lt s 2 _ (number_of-field-lt bytes b 4 2)
      below (suc (suc (suc zero))) = encode_field-lt s 3 _ (number_of-field-lt bytes b 6 2)
      below (suc (suc (suc (suc j)))) = omega arith

-- ---- records one after the other

pub length-records_bytes : (s : Shape) (rs : List Record) → length (records_bytes s rs) ≡ record_size * length rs
length-records_bytes s [] = refl
length-records_bytes s (r ∷ rs) =
    omega (arith, length-append (record_bytes s r) (records_bytes s rs), length-record_bytes s r, length-records_bytes s rs)

pub AreBytes-records_bytes : (s : Shape) (rs : List Record) → AreBytes (records_bytes s rs)
AreBytes-records_bytes s [] = λ i. omega arith
AreBytes-records_bytes s (r ∷ rs) =
    AreBytes-append (record_bytes s r) (records_bytes s rs) (AreBytes-record_bytes s r) (AreBytes-records_bytes s rs)

pub records_bytes-append : (s : Shape) (rs qs : List Record)
    → records_bytes s (rs ++ qs) ≡ records_bytes s rs ++ records_bytes s qs
records_bytes-append s [] qs = refl
records_bytes-append s (r ∷ rs) qs =
    ap (λ bytes. record_bytes s r ++ bytes) (records_bytes-append s rs qs)
    ∙ sym (append_assoc (record_bytes s r) (records_bytes s rs) (records_bytes s qs))

-- Laws of packed keys: put together by shifts, read back, the number of a record's first eight bytes. Assumes nothing.
use Prim.Native.Nat.{ℕ, zero, suc, ◌+◌, ◌*◌, ◌/◌, ◌%◌, ◌^◌, ◌≤◌, ◌<◌}
use mathlib.Core.Path.{◌≡◌, refl, ap, ◌∙◌}
use mathlib.Core.List.{List, [], ◌∷◌}
use native.Mathlib.Nat.{mod-eq_of_lt}
use native.Mathlib.Omega.{arith}
use lib.Bits.{bit_or}
use lib.ListN.{take, drop, get_or}
use lib.Seq.{drop-drop, take-take}
use Rattle.moves.proofs.PasteLaws.{window-of-take}
use Rattle.shape.specs.Key.{per_attribute}
use Rattle.record.specs.Bytes.{record_size, number_of, field}
use Rattle.record.specs.Packed.{packed_key, SixteenBits, packed_value, unpacked_key, key_in}
use Rattle.record.proofs.NumberLaws.{or_above, number_of-take-two}

-- ---- by shifts

pub or-packed_key : (values : List ℕ) → SixteenBits values
    → bit_or (bit_or (get_or values 0 0) ((get_or values 1 0 * 2 ^ 16) % 2 ^ 64))
    ((bit_or (get_or values 2 0) ((get_or values 3 0 * 2 ^ 16) % 2 ^ 64) * 2 ^ 32) % 2 ^ 64)
    ≡ packed_key values
unfolding packed_key
or-packed_key values b =
    let low = bit_or (get_or values 0 0) ((get_or values 1 0 * 2 ^ 16) % 2 ^ 64) in
    let high = bit_or (get_or values 2 0) ((get_or values 3 0 * 2 ^ 16) % 2 ^ 64) in
    let l : low ≡ get_or values 0 0 + 2 ^ 16 * get_or values 1 0 =
    or_above 16 (get_or values 0 0) (get_or values 1 0) (b 0) (omega (arith, b 1)) in
    let h : high ≡ get_or values 2 0 + 2 ^ 16 * get_or values 3 0 =
    or_above 16 (get_or values 2 0) (get_or values 3 0) (b 2) (omega (arith, b 3)) in
    or_above 32 low high (omega (arith, b 0, b 1)) (omega (arith, b 2, b 3)) ∙ omega (arith, l, h)

-- ---- read back

pub packed_key-lt : (values : List ℕ) → SixteenBits values → packed_key values < 2 ^ 64
unfolding packed_key
packed_key-lt values b = omega (arith, b 0, b 1, b 2, b 3)

lanes : (v0 v1 v2 v3 : ℕ) → v0 < 2 ^ 16 → v1 < 2 ^ 16 → v2 < 2 ^ 16 → v3 < 2 ^ 16
    → per_attribute (λ j. (v0 + 2 ^ 16 * (v1 + 2 ^ 16 * (v2 + 2 ^ 16 * v3))) / 2 ^ (16 * j) % 2 ^ 16)
    ≡ v0 ∷ v1 ∷ v2 ∷ v3 ∷ []
lanes v0 v1 v2 v3 b0 b1 b2 b3 =
    let key = v0 + 2 ^ 16 * (v1 + 2 ^ 16 * (v2 + 2 ^ 16 * v3)) in
    let e1 : key / 2 ^ 16 ≡ v1 + 2 ^ 16 * (v2 + 2 ^ 16 * v3) = omega arith in
    let e2 : key / 2 ^ 32 ≡ v2 + 2 ^ 16 * v3 = omega arith in
    let e3 : key / 2 ^ 48 ≡ v3 = omega arith in
    let d0 : key / 2 ^ 0 % 2 ^ 16 ≡ v0 = omega arith in
    let d1 : key / 2 ^ 16 % 2 ^ 16 ≡ v1 = ap (λ x. x % 2 ^ 16) e1 ∙ omega arith in
    let d2 : key / 2 ^ 32 % 2 ^ 16 ≡ v2 = ap (λ x. x % 2 ^ 16) e2 ∙ omega arith in
    let d3 : key / 2 ^ 48 % 2 ^ 16 ≡ v3 = ap (λ x. x % 2 ^ 16) e3 ∙ omega arith in
    λ i. d0 i ∷ d1 i ∷ d2 i ∷ d3 i ∷ []

-- no value is lost
pub unpacked_key-packed_key : (values : List ℕ) → SixteenBits values
    → unpacked_key (packed_key values) ≡ per_attribute (λ j. get_or values j 0)
unfolding unpacked_key packed_key
unpacked_key-packed_key values b =
    lanes (get_or values 0 0) (get_or values 1 0) (get_or values 2 0) (get_or values 3 0) (b 0) (b 1) (b 2) (b 3)

pub get_d-unpacked_key : (key j : ℕ) → j < 4 → get_or (unpacked_key key) j 0 ≡ packed_value key j
unfolding unpacked_key
get_d-unpacked_key key zero h = refl
get_d-unpacked_key key (suc zero) h = refl
get_d-unpacked_key key (suc (suc zero)) h = refl
get_d-unpacked_key key (suc (suc (suc zero))) h = refl
get_d-unpacked_key key (suc (suc (suc (suc j)))) h = absurd (omega arith)

pub unpacked_key-lt : (key : ℕ) → SixteenBits (unpacked_key key)
unfolding unpacked_key
unpacked_key-lt key zero = omega arith
unpacked_key-lt key (suc zero) = omega arith
unpacked_key-lt key (suc (suc zero)) = omega arith
unpacked_key-lt key (suc (suc (suc zero))) = omega arith
unpacked_key-lt key (suc (suc (suc (suc j)))) = omega arith

pub packed_key-unpacked_key : (key : ℕ) → key < 2 ^ 64 → packed_key (unpacked_key key) ≡ key
unfolding unpacked_key packed_key
packed_key-unpacked_key key h =
    let digit : (x : ℕ) → x % 2 ^ 16 + 2 ^ 16 * (x / 2 ^ 16) ≡ x = λ x. omega arith in
    let one = key / 2 ^ 16 in
    let two = key / 2 ^ 16 / 2 ^ 16 in
    let v0 : key / 2 ^ 0 % 2 ^ 16 ≡ key % 2 ^ 16 = omega arith in
    let second : key / 2 ^ 32 ≡ two = omega arith in
    let top : key / 2 ^ 48 ≡ two / 2 ^ 16 = omega arith in
    let third : key / 2 ^ 48 % 2 ^ 16 ≡ two / 2 ^ 16 = mod-eq_of_lt {n = key / 2 ^ 48} (omega arith) ∙ top in
    (λ i. v0 i + 2 ^ 16 * (one % 2 ^ 16 + 2 ^ 16 * (second i % 2 ^ 16 + 2 ^ 16 * third i)))
    ∙ ap (λ x. key % 2 ^ 16 + 2 ^ 16 * (one % 2 ^ 16 + 2 ^ 16 * x)) (digit two)
    ∙ ap (λ x. key % 2 ^ 16 + 2 ^ 16 * x) (digit one)
    ∙ digit key

-- ---- in a record's bytes

-- a field of a field
pub field-field : (bytes : List ℕ) (at n i k : ℕ) → i + k ≤ n → field (field bytes at n) i k ≡ field bytes (at + i) k
field-field bytes at n i k h =
    window-of-take n i k (take n (drop at bytes)) (drop at bytes) (take-take n n (drop at bytes) (omega arith)) h
    ∙ ap (take k) (drop-drop i at bytes)

pub key_in-field : (bytes : List ℕ) (at : ℕ) → key_in (field bytes at record_size) ≡ number_of (field bytes at 8)
key_in-field bytes at =
    let e : at + 0 ≡ at = omega arith in
    ap number_of (field-field bytes at record_size 0 8 (omega arith) ∙ ap (λ i. field bytes i 8) e)

-- the four values, packed
pub packed_key-bytes : (bytes : List ℕ) → packed_key (per_attribute (λ j. number_of (field bytes (2 * j) 2))) ≡ key_in bytes
unfolding packed_key
packed_key-bytes bytes =
    omega (
      arith,
      number_of-take-two 6 bytes,
      number_of-take-two 4 (drop 2 bytes),
      number_of-take-two 2 (drop 2 (drop 2 bytes)),
      ap (λ l. number_of (take 2 l)) (drop-drop 2 2 bytes),
      ap (λ l. number_of (take 2 (drop 2 l))) (drop-drop 2 2 bytes),
      ap (λ l. number_of (take 4 l)) (drop-drop 2 2 bytes),
      ap (λ l. number_of (take 2 l)) (drop-drop 2 4 bytes),
    )

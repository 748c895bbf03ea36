-- Laws of two numbers that agree with a third under a mask of high bits: values of 16 bits, packed keys. Assumes
-- nothing.
use Prim.Native.Nat.{ℕ, zero, suc, ◌+◌, ◌-◌, ◌*◌, ◌/◌, ◌%◌, ◌^◌, ◌≤◌, ◌<◌}
use mathlib.Core.Path.{◌≡◌, sym, ap, ◌∙◌, subst}
use mathlib.Core.List.{[], ◌∷◌}
use mathlib.Core.Logic.{◌↔◌}
use native.Mathlib.Nat.{lt_of_le_of_lt, zero-div, zero-mul}
use native.Mathlib.Omega.{arith}
use lib.Bits.{bit_and, bit_or, bit_xor, and_le_l, and_le_r, and_high, or_lt, or_shr, or_add_and, xor_lt, xor_shr}
use lib.Bits.{xor_self, xor_add_and}
use lib.ListN.{get_or}
use lib.Pow.{pow_pos, shl-shr, shr_mod}
use Rattle.shape.specs.Key.{per_attribute}
use Rattle.record.specs.Packed.{packed_key, SixteenBits, packed_value, unpacked_key}
use Rattle.record.proofs.PackedLaws.{packed_key-lt, packed_key-unpacked_key, unpacked_key-packed_key}
use Rattle.key_order.proofs.BitLaws.{packed_value-and, packed_value-or, packed_value-xor}

-- ---- one value

eq-of-xor : (a b : ℕ) → bit_xor a b ≡ 0 → a ≡ b
eq-of-xor a b e = omega (arith, xor_add_and a b, and_le_l a b, and_le_r a b)

zero-of-or : (a b : ℕ) → bit_or a b ≡ 0 → (a ≡ 0) × (b ≡ 0)
zero-of-or a b e =
    (omega (arith, or_add_and a b, and_le_r a b), omega (arith, or_add_and a b, and_le_l a b))

-- a value under the mask of its bits from k on
and-lane : (v k : ℕ) → k ≤ 16 → v < 2 ^ 16 → bit_and v (2 ^ 16 - 2 ^ k) ≡ v / 2 ^ k * 2 ^ k
and-lane v k h =
    let e : (16 - k) + k ≡ 16 = omega arith in
    subst (λ m. v < 2 ^ m → bit_and v (2 ^ m - 2 ^ k) ≡ v / 2 ^ k * 2 ^ k) e
    (λ l. and_high v (16 - k) k ∙ ap (λ x. x * 2 ^ k) (shr_mod (16 - k) k l))

zero-of-shifted : (x k : ℕ) → x * 2 ^ k ≡ 0 → x ≡ 0
zero-of-shifted x k e = sym (shl-shr x k) ∙ ap (λ n. n / 2 ^ k) e ∙ zero-div (2 ^ k)

-- where a or b differs from c
abbrev pub differing : ℕ → ℕ → ℕ → ℕ
differing a b c = bit_or (bit_xor a c) (bit_xor b c)

differing-shr : (a b c k : ℕ) → differing a b c / 2 ^ k ≡ differing (a / 2 ^ k) (b / 2 ^ k) (c / 2 ^ k)
differing-shr a b c k =
    or_shr (bit_xor a c) (bit_xor b c) k ∙ (λ i. bit_or (xor_shr a c k i) (xor_shr b c k i))

-- two values agree with a third in their bits from k on
pub agree-lane : (a b c k : ℕ) → k ≤ 16 → a < 2 ^ 16 → b < 2 ^ 16 → c < 2 ^ 16
    → (bit_and (differing a b c) (2 ^ 16 - 2 ^ k) ≡ 0) ↔ ((a / 2 ^ k ≡ c / 2 ^ k) × (b / 2 ^ k ≡ c / 2 ^ k))
agree-lane a b c k h la lb lc = (to, from)
  where
    masked : bit_and (differing a b c) (2 ^ 16 - 2 ^ k) ≡ differing (a / 2 ^ k) (b / 2 ^ k) (c / 2 ^ k) * 2 ^ k
    masked =
        and-lane (differing a b c) k h (or_lt 16 (bit_xor a c) (bit_xor b c) (xor_lt 16 a c la lc) (xor_lt 16 b c lb lc))
        ∙ ap (λ x. x * 2 ^ k) (differing-shr a b c k)

    to : bit_and (differing a b c) (2 ^ 16 - 2 ^ k) ≡ 0 → (a / 2 ^ k ≡ c / 2 ^ k) × (b / 2 ^ k ≡ c / 2 ^ k)
    to e =
        let u = zero-of-or _ _ (zero-of-shifted _ k (sym masked ∙ e)) in
        (eq-of-xor (a / 2 ^ k) (c / 2 ^ k) u.0, eq-of-xor (b / 2 ^ k) (c / 2 ^ k) u.1)

    from : (a / 2 ^ k ≡ c / 2 ^ k) × (b / 2 ^ k ≡ c / 2 ^ k) → bit_and (differing a b c) (2 ^ 16 - 2 ^ k) ≡ 0
    from e = masked ∙ rw (e.0, e.1, xor_self (c / 2 ^ k)) (zero-mul (2 ^ k))

-- ---- packed keys, value by value

packed_value-differing : (a b c j : ℕ)
    → packed_value (differing a b c) j ≡ differing (packed_value a j) (packed_value b j) (packed_value c j)
packed_value-differing a b c j =
    packed_value-or (bit_xor a c) (bit_xor b c) j ∙ (λ i. bit_or (packed_value-xor a c j i) (packed_value-xor b c j i))

zero-of-values : (z : ℕ) → z < 2 ^ 64 → ((j : ℕ) → j < 4 → packed_value z j ≡ 0) → z ≡ 0
unfolding packed_key unpacked_key
zero-of-values z l h =
    sym (packed_key-unpacked_key z l)
    ∙ (λ i. packed_key (h 0 (omega arith) i ∷ h 1 (omega arith) i ∷ h 2 (omega arith) i ∷ h 3 (omega arith) i ∷ []))

packed_value-zero : (j : ℕ) → packed_value 0 j ≡ 0
packed_value-zero j = ap (λ n. n % 2 ^ 16) (zero-div (2 ^ (16 * j)))

pub packed_value-packed_key : (f : ℕ → ℕ) → SixteenBits (per_attribute f) → (j : ℕ) → j < 4
    → packed_value (packed_key (per_attribute f)) j ≡ f j
unfolding unpacked_key
packed_value-packed_key f b zero l = ap (λ v. get_or v 0 0) (unpacked_key-packed_key (per_attribute f) b)
packed_value-packed_key f b (suc zero) l = ap (λ v. get_or v 1 0) (unpacked_key-packed_key (per_attribute f) b)
packed_value-packed_key f b (suc (suc zero)) l = ap (λ v. get_or v 2 0) (unpacked_key-packed_key (per_attribute f) b)
packed_value-packed_key f b (suc (suc (suc zero))) l = ap (λ v. get_or v 3 0) (unpacked_key-packed_key (per_attribute f) b)
packed_value-packed_key f b (suc (suc (suc (suc j)))) l = absurd (omega arith)

-- ---- packed keys under the mask of the bits from k_j on, of the value of each attribute j

abbrev pub high_bits : (ℕ → ℕ) → ℕ → ℕ
high_bits k j = 2 ^ 16 - 2 ^ k j

high_bits-lt : (k : ℕ → ℕ) → SixteenBits (per_attribute (high_bits k))
high_bits-lt k zero = omega (arith, pow_pos (k 0))
high_bits-lt k (suc zero) = omega (arith, pow_pos (k 1))
high_bits-lt k (suc (suc zero)) = omega (arith, pow_pos (k 2))
high_bits-lt k (suc (suc (suc zero))) = omega (arith, pow_pos (k 3))
high_bits-lt k (suc (suc (suc (suc j)))) = omega arith

packed_value-high_bits : (k : ℕ → ℕ) (a j : ℕ) → j < 4
    → packed_value (bit_and a (packed_key (per_attribute (high_bits k)))) j ≡ bit_and (packed_value a j) (high_bits k j)
packed_value-high_bits k a j l =
    packed_value-and a (packed_key (per_attribute (high_bits k))) j
    ∙ ap (bit_and (packed_value a j)) (packed_value-packed_key (high_bits k) (high_bits-lt k) j l)

pub packed_value-masked : (k : ℕ → ℕ) → ((j : ℕ) → k j ≤ 16) → (a j : ℕ) → j < 4
    → packed_value (bit_and a (packed_key (per_attribute (high_bits k)))) j ≡ packed_value a j / 2 ^ k j * 2 ^ k j
packed_value-masked k h a j l =
    packed_value-high_bits k a j l ∙ and-lane (packed_value a j) (k j) (h j) (omega arith)

-- two keys agree with a third in the value of attribute j
abbrev pub AgreeFrom : (ℕ → ℕ) → ℕ → ℕ → ℕ → ℕ → Type 0
AgreeFrom k a b c j =
    (packed_value a j / 2 ^ k j ≡ packed_value c j / 2 ^ k j) × (packed_value b j / 2 ^ k j ≡ packed_value c j / 2 ^ k j)

pub agree-packed : (k : ℕ → ℕ) → ((j : ℕ) → k j ≤ 16) → (a b c : ℕ)
    → (bit_and (differing a b c) (packed_key (per_attribute (high_bits k))) ≡ 0)
    ↔ ((j : ℕ) → j < 4 → AgreeFrom k a b c j)
agree-packed k h a b c = (to, from)
  where
    mask : ℕ
    mask = packed_key (per_attribute (high_bits k))

    value : (j : ℕ) → j < 4 → packed_value (bit_and (differing a b c) mask) j
        ≡ bit_and (differing (packed_value a j) (packed_value b j) (packed_value c j)) (high_bits k j)
    value j l =
        packed_value-high_bits k (differing a b c) j l ∙ ap (λ v. bit_and v (high_bits k j)) (packed_value-differing a b c j)

    lane : (j : ℕ) → (bit_and (differing (packed_value a j) (packed_value b j) (packed_value c j)) (high_bits k j) ≡ 0)
        ↔ AgreeFrom k a b c j
    lane j =
        agree-lane (packed_value a j) (packed_value b j) (packed_value c j) (k j) (h j) (omega arith) (omega arith)
        (omega arith)

    to : bit_and (differing a b c) mask ≡ 0 → (j : ℕ) → j < 4 → AgreeFrom k a b c j
    to e j l = (lane j).0 (sym (value j l) ∙ ap (λ z. packed_value z j) e ∙ packed_value-zero j)

    from : ((j : ℕ) → j < 4 → AgreeFrom k a b c j) → bit_and (differing a b c) mask ≡ 0
    from e =
        zero-of-values (bit_and (differing a b c) mask)
        (lt_of_le_of_lt (and_le_r (differing a b c) mask) (packed_key-lt (per_attribute (high_bits k)) (high_bits-lt k)))
        (λ j l. value j l ∙ (lane j).1 (e j l))

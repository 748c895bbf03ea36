-- Laws of a value's bits at the top of 64: how shifts put them there, which bits they are, and their leading zeros.
-- Assumes nothing.
use Prim.Native.Nat.{ℕ, suc, ◌+◌, ◌*◌, ◌-◌, ◌/◌, ◌%◌, ◌^◌, ◌≤◌, ◌<◌}
use mathlib.Core.Path.{◌≡◌, sym, ap, ◌∙◌, subst}
use mathlib.Core.Bool.{true, false, true≢false}
use mathlib.Core.Logic.{◌⊎◌, inl, inr}
use native.Mathlib.Nat.{mul_assoc, mul-mod_left, mod-lt}
use native.Mathlib.Omega.{arith}
use lib.Bits.{shifted_even}
use lib.Count.{count_leading_zeros, leading_of_zero, leading_top, leading_le}
use lib.Dec.{eqb}
use lib.Pow.{pow_pos, pow-add, shl_lt, shl-shr, shr-shr, mod-pow-add}
use Rattle.lists.proofs.Numbers.{lt-or-le, eq-or-ne, bit-mod}
use Rattle.split.specs.Bits.{bit_of}
use Rattle.record.specs.Packed.{packed_value}
use Rattle.key_order.specs.Private.{has_bit, top_bits, LeadingOne, FirstBit}
use Rattle.key_order.proofs.BitLaws.{has_bit-past, has_bit-highest}

-- ---- shifted to the top

shl-mod : (a j k : ℕ) → (a * 2 ^ k) % 2 ^ (j + k) ≡ (a % 2 ^ j) * 2 ^ k
shl-mod a j k =
    let high : a * 2 ^ k / 2 ^ k ≡ a = shl-shr a k in
    let parts = mod-pow-add (a * 2 ^ k) j k in
    let low : (a * 2 ^ k) % 2 ^ k ≡ 0 = mul-mod_left a (2 ^ k) in
    parts ∙ ap (λ x. (x % 2 ^ j) * 2 ^ k + (a * 2 ^ k) % 2 ^ k) high ∙ omega (arith, low)

pub top_bits-shifted : (key w j : ℕ) → w ≤ 16
    → (((key / 2 ^ (16 * j) * 2 ^ 48) % 2 ^ 64) * 2 ^ (16 - w)) % 2 ^ 64 ≡ top_bits w (packed_value key j)
top_bits-shifted key w j h =
    let v = key / 2 ^ (16 * j) in
    let e : 48 + (16 - w) ≡ 64 - w = omega arith in
    let f : w + (64 - w) ≡ 64 = omega arith in
    ap (λ x. (x * 2 ^ (16 - w)) % 2 ^ 64) (shl-mod v 16 48)
    ∙ ap (λ x. x % 2 ^ 64) (mul_assoc (v % 2 ^ 16) (2 ^ 48) (2 ^ (16 - w)))
    ∙ ap (λ x. ((v % 2 ^ 16) * x) % 2 ^ 64) (sym (pow-add 2 48 (16 - w)))
    ∙ (λ i. ((v % 2 ^ 16) * 2 ^ e i) % 2 ^ sym f i)
    ∙ shl-mod (v % 2 ^ 16) w (64 - w)

-- ---- their bits

pub top_bits-lt : (w v : ℕ) → w ≤ 16 → top_bits w v < 2 ^ 64
top_bits-lt w v h =
    let f : w + (64 - w) ≡ 64 = omega arith in
    subst (λ k. top_bits w v < 2 ^ k) f (shl_lt w (64 - w) (mod-lt v (pow_pos w)))

-- bit k from above, bit s from below
module _ (w v k s : ℕ) (h : w ≤ 16) (place : k + suc s ≡ 64) where
  pub has_bit-top_bits : k < w → has_bit s (top_bits w v) ≡ bit_of w v k
  has_bit-top_bits l =
      let i = w - suc k in
      let e : s ≡ (64 - w) + i = omega arith in
      ap (λ n. has_bit n (top_bits w v)) e
      ∙ ap (λ a. eqb (a % 2) 1) (sym (shr-shr (top_bits w v) (64 - w) i))
      ∙ ap (λ a. eqb (a / 2 ^ i % 2) 1) (shl-shr (v % 2 ^ w) (64 - w))
      ∙ ap (λ a. eqb a 1) (bit-mod w v i (omega arith))

  has_bit-top_bits-past : w ≤ k → has_bit s (top_bits w v) ≡ false
  has_bit-top_bits-past l =
      let i = k - w in
      let u = v % 2 ^ w in
      let e : 64 - w ≡ suc i + s = omega arith in
      let more : u * 2 ^ (64 - w) ≡ u * 2 ^ suc i * 2 ^ s =
      ap (λ n. u * 2 ^ n) e ∙ ap (λ a. u * a) (pow-add 2 (suc i) s) ∙ sym (mul_assoc u (2 ^ suc i) (2 ^ s)) in
      ap (has_bit s) more
      ∙ ap (λ a. eqb (a % 2) 1) (shl-shr (u * 2 ^ suc i) s)
      ∙ ap (λ a. eqb a 1) (shifted_even u i)

  pub width-of-has_bit : has_bit s (top_bits w v) ≡ true → k < w
  width-of-has_bit e = go (lt-or-le k w)
    where
      go : (k < w) ⊎ (w ≤ k) → k < w
      go (inl l) = l
      go (inr l) = absurd (true≢false (sym e ∙ has_bit-top_bits-past l))

-- of top bits below 2 ^ m, the bits from m on are 0
pub bit_of-below : (w v k m : ℕ) → w ≤ 16 → k < w → top_bits w v < 2 ^ m → k + m < 64 → bit_of w v k ≡ false
bit_of-below w v k m h l small past =
    sym (has_bit-top_bits w v k (63 - k) h (omega arith) l) ∙ has_bit-past (top_bits w v) m (63 - k) small (omega arith)

-- ---- the leading one by leading zeros

pub leading_one-shifted : (n : ℕ) → 0 < n → n < 2 ^ 64 → LeadingOne n (2 ^ 63 / 2 ^ count_leading_zeros 64 n)
leading_one-shifted n pos small =
    let top = leading_top 64 n pos small in
    let e : 63 ≡ top.0 + count_leading_zeros 64 n = omega (arith, top.1) in
    record {
      place = top.0;
      is-power =
          ap (λ k. 2 ^ k / 2 ^ count_leading_zeros 64 n) e
          ∙ ap (λ a. a / 2 ^ count_leading_zeros 64 n) (pow-add 2 top.0 (count_leading_zeros 64 n))
          ∙ shl-shr (2 ^ top.0) (count_leading_zeros 64 n);
      low = top.2;
      high = top.3;
    }

module _ (w v j : ℕ) (h : w ≤ 16) (hj : j < 4) where
  abbrev found : ℕ
  found = count_leading_zeros 64 (top_bits w v)

  pub first_bit-zeros : FirstBit w v j (4 * found + j)
  first_bit-zeros = go (eq-or-ne (top_bits w v) 0)
    where
      go : (top_bits w v ≡ 0) ⊎ (top_bits w v ≡ 0 → ⊥) → FirstBit w v j (4 * found + j)
      go (inl z) =
          let all : found ≡ 64 = ap (count_leading_zeros 64) z ∙ leading_of_zero 64 in
          record {
            most = omega arith;
            zero-before = λ k l p. bit_of-below w v k 0 h l (omega arith) (omega arith);
            attribute-there = λ l. absurd (omega arith);
            step-there = λ l. absurd (omega arith);
            one-there = λ l. absurd (omega arith);
          }
      go (inr n) =
          let top = leading_top 64 (top_bits w v) (omega arith) (top_bits-lt w v h) in
          let s = top.0 in
          let one = has_bit-highest (top_bits w v) s top.2 top.3 in
          let live = width-of-has_bit w v found s h top.1 one in
          let k-is : (4 * found + j) / 4 ≡ found = omega arith in
          record {
            most = omega (arith, top.1);
            zero-before = λ k l p. bit_of-below w v k (suc s) h l top.3 (omega (arith, top.1));
            attribute-there = λ l. omega arith;
            step-there = λ l. omega arith;
            one-there = λ l. ap (bit_of w v) k-is ∙ sym (has_bit-top_bits w v found s h top.1 live) ∙ one;
          }

-- places are small numbers
pub zeros-fit : (a : ℕ) → count_leading_zeros 64 a < 2 ^ 64
zeros-fit a = omega (arith, leading_le 64 a)

pub zeros-fit-four : (a : ℕ) → 4 * count_leading_zeros 64 a < 2 ^ 64
zeros-fit-four a = omega (arith, leading_le 64 a)

pub zeros-fit-place : (a j : ℕ) → j < 4 → 4 * count_leading_zeros 64 a + j < 2 ^ 64
zeros-fit-place a j h = omega (arith, leading_le 64 a)

-- Laws of bits: by a number's bounds, one alone, of the values in a packed key, of an exclusive-or.
-- Assumes nothing.
use Prim.Native.Nat.{ℕ, zero, suc, ◌+◌, ◌*◌, ◌-◌, ◌/◌, ◌%◌, ◌^◌, ◌≤◌, ◌<◌}
use mathlib.Core.Path.{◌≡◌, refl, sym, ap, ◌∙◌, subst}
use mathlib.Core.Bool.{Bool, true, false, cond, not, beq, true≢false}
use mathlib.Core.Logic.{◌⊎◌, inl, inr}
use native.Mathlib.Nat.{zero-div}
use native.Mathlib.Omega.{arith}
use borrow.Author.Tests.{eqb-true, eqb-false}
use lib.Dec.{eqb}
use lib.Bits.{bit_and, bit_or, bit_xor, and_high, and_shr, and_mod, or_shr, or_mod, xor_shr, xor_mod}
use lib.Pow.{pow_mono, pow_pos, shl-shr, shr_lt, shr_mono, shr-shr}
use Rattle.lists.proofs.Numbers.{lt-or-le, pow-double, bit-mod}
use Rattle.split.specs.Bits.{bit_of}
use Rattle.record.specs.Packed.{packed_value}
use Rattle.key_order.specs.Private.{has_bit}

-- ---- by bounds

-- a number below a power, shifted past it
shr_zero : (u k m : ℕ) → u < 2 ^ m → m ≤ k → u / 2 ^ k ≡ 0
shr_zero u k m l h =
    let small : u < 2 ^ k = omega (arith, pow_mono h) in
    let e : k ≡ 0 + k = omega arith in
    omega (arith, shr_lt {n = u} 0 k (subst (λ n. u < 2 ^ n) e small))

shr_one : (u i : ℕ) → 2 ^ i ≤ u → u < 2 ^ suc i → u / 2 ^ i ≡ 1
shr_one u i l h =
    let one : 1 * 2 ^ i ≡ 2 ^ i = omega arith in
    let e : suc i ≡ 1 + i = omega arith in
    omega (
      arith,
      shr_lt {n = u} 1 i (subst (λ n. u < 2 ^ n) e h),
      shr_mono {a = 1 * 2 ^ i} {b = u} i (omega arith),
      shl-shr 1 i,
    )

pub has_bit-past : (n m s : ℕ) → n < 2 ^ m → m ≤ s → has_bit s n ≡ false
has_bit-past n m s l h = ap (λ x. eqb (x % 2) 1) (shr_zero n s m l h)

pub has_bit-highest : (n s : ℕ) → 2 ^ s ≤ n → n < 2 ^ suc s → has_bit s n ≡ true
has_bit-highest n s l h = ap (λ x. eqb (x % 2) 1) (shr_one n s l h)

pub lt-of-has_bit : (n s : ℕ) → n < 2 ^ suc s → has_bit s n ≡ false → n < 2 ^ s
lt-of-has_bit n s h e = go (lt-or-le n (2 ^ s))
  where
    go : (n < 2 ^ s) ⊎ (2 ^ s ≤ n) → n < 2 ^ s
    go (inl l) = l
    go (inr l) = absurd (true≢false (sym (has_bit-highest n s l h) ∙ e))

-- ---- one bit alone

pub and-bit : (n s : ℕ) → bit_and n (2 ^ s) ≡ cond (has_bit s n) (2 ^ s) 0
and-bit n s =
    let more : 1 + s ≡ suc s = omega arith in
    let one : 2 ^ s ≡ 2 ^ (1 + s) - 2 ^ s = omega (arith, ap (λ k. 2 ^ k) more, pow-double s) in
    ap (bit_and n) one ∙ and_high n 1 s ∙ go (has_bit s n) refl
  where
    go : (β : Bool) → has_bit s n ≡ β → (n / 2 ^ s % 2) * 2 ^ s ≡ cond β (2 ^ s) 0
    go true e = ap (λ d. d * 2 ^ s) (eqb-true (n / 2 ^ s % 2) 1 e) ∙ omega arith
    go false e =
        let zero-digit : n / 2 ^ s % 2 ≡ 0 = omega (arith, eqb-false (n / 2 ^ s % 2) 1 e) in
        ap (λ d. d * 2 ^ s) zero-digit ∙ omega arith

pub has_bit-alone : (β : Bool) (s : ℕ) → has_bit s (cond β (2 ^ s) 0) ≡ β
has_bit-alone true s = has_bit-highest (2 ^ s) s (omega arith) (omega (arith, pow-double s, pow_pos s))
has_bit-alone false s = ap (λ x. eqb (x % 2) 1) (zero-div (2 ^ s))

-- ---- of a packed key

pub bit-packed_value : (key j i : ℕ) → i < 16 → packed_value key j / 2 ^ i % 2 ≡ key / 2 ^ (16 * j + i) % 2
bit-packed_value key j i h = bit-mod 16 (key / 2 ^ (16 * j)) i h ∙ ap (λ x. x % 2) (shr-shr key (16 * j) i)

-- bit operations go value by value
pub packed_value-and : (x y j : ℕ) → packed_value (bit_and x y) j ≡ bit_and (packed_value x j) (packed_value y j)
packed_value-and x y j =
    ap (λ n. n % 2 ^ 16) (and_shr x y (16 * j)) ∙ and_mod (x / 2 ^ (16 * j)) (y / 2 ^ (16 * j)) 16

pub packed_value-or : (x y j : ℕ) → packed_value (bit_or x y) j ≡ bit_or (packed_value x j) (packed_value y j)
packed_value-or x y j =
    ap (λ n. n % 2 ^ 16) (or_shr x y (16 * j)) ∙ or_mod (x / 2 ^ (16 * j)) (y / 2 ^ (16 * j)) 16

pub packed_value-xor : (x y j : ℕ) → packed_value (bit_xor x y) j ≡ bit_xor (packed_value x j) (packed_value y j)
packed_value-xor x y j =
    ap (λ n. n % 2 ^ 16) (xor_shr x y (16 * j)) ∙ xor_mod (x / 2 ^ (16 * j)) (y / 2 ^ (16 * j)) 16

-- ---- of an exclusive-or

xor-bit : (a b : ℕ) → a < 2 → b < 2 → eqb (bit_xor a b) 1 ≡ not (beq (eqb a 1) (eqb b 1))
xor-bit zero zero h k = refl
xor-bit zero (suc zero) h k = refl
xor-bit (suc zero) zero h k = refl
xor-bit (suc zero) (suc zero) h k = refl
xor-bit zero (suc (suc b)) h k = absurd (omega arith)
xor-bit (suc zero) (suc (suc b)) h k = absurd (omega arith)
xor-bit (suc (suc a)) b h k = absurd (omega arith)

-- a bit is 1 exactly if the two bits differ
pub bit_of-xor : (w x y j k : ℕ)
    → bit_of w (packed_value (bit_xor x y) j) k
    ≡ not (beq (bit_of w (packed_value x j) k) (bit_of w (packed_value y j) k))
bit_of-xor w x y j k =
    let i = w - suc k in
    let a = packed_value x j in
    let b = packed_value y j in
    ap (λ v. eqb (v / 2 ^ i % 2) 1) (packed_value-xor x y j)
    ∙ ap (λ v. eqb (v % 2) 1) (xor_shr a b i)
    ∙ ap (λ v. eqb v 1) (xor_mod (a / 2 ^ i) (b / 2 ^ i) 1)
    ∙ xor-bit (a / 2 ^ i % 2) (b / 2 ^ i % 2) (omega arith) (omega arith)

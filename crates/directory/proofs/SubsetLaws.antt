-- Laws of sums of distinct powers of two: those of some of the powers are the numbers whose bits are among the bits of
-- the sum of all. Assumes nothing.
use Prim.Native.Nat.{ℕ, zero, suc, ◌+◌, ◌*◌, ◌/◌, ◌%◌, ◌^◌, ◌≤◌, ◌<◌}
use mathlib.Core.Path.{◌≡◌, refl, sym, ap, ◌∙◌}
use mathlib.Core.Bool.{Bool, true, false}
use mathlib.Core.Logic.{◌⊎◌, inl, inr}
use native.Mathlib.Omega.{arith}
use native.Mathlib.Nat.{zero-div}
use lib.Bits.{bit_and, and_step, and_zero_r, block_half, block_odd}
use lib.Dec.{eqb}
use lib.Pow.{shr-shr}
use Rattle.lists.proofs.Numbers.{eq-or-ne, pow-double}
use Rattle.split.specs.Steps.{bit_value}
use Rattle.cell.specs.Cell.{Agree}
use Rattle.cell.proofs.Strings.{bit_value-digit}
use Rattle.directory.specs.Blocks.{Among}
use Rattle.region.specs.Strings.{with_bit}
use Rattle.region.proofs.StringLaws.{with_bit-same, with_bit-other}
use Rattle.cell.proofs.AgreeLaws.{agree-with_bit, agree-le}

-- ---- one bit of a number

-- bit e + 1 is bit e of the half
bit-half : (v e : ℕ) → v / 2 ^ suc e % 2 ≡ v / 2 / 2 ^ e % 2
bit-half v e = let n : 1 + e ≡ suc e = omega arith in
    ap (λ k. v / 2 ^ k % 2) (sym n) ∙ ap (λ x. x % 2) (sym (shr-shr v 1 e))

-- a bit more where there is none leaves the other bits
bit-other : (e i a b : ℕ) → a / 2 ^ e % 2 ≡ 0 → (i ≡ e → ⊥) → b ≤ 1 → (b * 2 ^ e + a) / 2 ^ i % 2 ≡ a / 2 ^ i % 2
bit-other zero zero a b z ne h = absurd (ne refl)
bit-other zero (suc i) a b z ne h =
    let half : (b * 2 ^ zero + a) / 2 ≡ a / 2 = omega arith in
    bit-half (b * 2 ^ zero + a) i ∙ ap (λ x. x / 2 ^ i % 2) half ∙ sym (bit-half a i)
bit-other (suc e) zero a b z ne h = omega (arith, block_odd b e a)
bit-other (suc e) (suc i) a b z ne h =
    bit-half (b * 2 ^ suc e + a) i
    ∙ ap (λ x. x / 2 ^ i % 2) (block_half b e a)
    ∙ bit-other e i (a / 2) b (sym (bit-half a e) ∙ z) (λ d. ne (ap suc d)) h
    ∙ sym (bit-half a i)

-- a bit of both numbers
and-bit : (e a m b : ℕ) → a / 2 ^ e % 2 ≡ 0 → m / 2 ^ e % 2 ≡ 0 → b ≤ 1
    → bit_and (b * 2 ^ e + a) (1 * 2 ^ e + m) ≡ b * 2 ^ e + bit_and a m
and-bit zero a m b za zm h =
    let x : (b * 2 ^ zero + a) / 2 ≡ a / 2 = omega arith in
    let y : (1 * 2 ^ zero + m) / 2 ≡ m / 2 = omega arith in
    let e : bit_and ((b * 2 ^ zero + a) / 2) ((1 * 2 ^ zero + m) / 2) ≡ bit_and (a / 2) (m / 2) = cc in
    omega (arith, and_step (b * 2 ^ zero + a) (1 * 2 ^ zero + m), and_step a m, e)
and-bit (suc e) a m b za zm h =
    let ih = and-bit e (a / 2) (m / 2) b (sym (bit-half a e) ∙ za) (sym (bit-half m e) ∙ zm) h in
    let x = block_half b e a in
    let y = block_half 1 e m in
    let both : bit_and ((b * 2 ^ suc e + a) / 2) ((1 * 2 ^ suc e + m) / 2) ≡ b * 2 ^ e + bit_and (a / 2) (m / 2) =
    rw (x, y) ih in
    let double : b * 2 ^ suc e ≡ b * 2 ^ e * 2 = ap (λ n. b * n) (pow-double e) ∙ omega arith in
    omega (
      arith,
      and_step (b * 2 ^ suc e + a) (1 * 2 ^ suc e + m),
      and_step a m,
      both,
      double,
      block_odd b e a,
      block_odd 1 e m,
    )

-- a number as its bit e and the others
pub record BitApart (e v : ℕ) : Type 0 where
  pub bit : ℕ
  pub rest : ℕ
  pub le : bit ≤ 1
  pub sum : bit * 2 ^ e + rest ≡ v
  pub none : rest / 2 ^ e % 2 ≡ 0

bit-apart : (e v : ℕ) → BitApart e v
bit-apart zero v = record { bit = v % 2; rest = v / 2 * 2; le = omega arith; sum = omega arith; none = omega arith }
bit-apart (suc e) v =
    let r = bit-apart e (v / 2) in
    let half : (v % 2 + r.rest * 2) / 2 ≡ r.rest = omega arith in
    let double : r.bit * 2 ^ suc e ≡ r.bit * 2 ^ e * 2 = ap (λ n. r.bit * n) (pow-double e) ∙ omega arith in
    record {
      bit = r.bit;
      rest = v % 2 + r.rest * 2;
      le = r.le;
      sum = omega (arith, double, r.sum);
      none = bit-half (v % 2 + r.rest * 2) e ∙ ap (λ x. x / 2 ^ e % 2) half ∙ r.none;
    }

-- ---- sums of powers

-- the sum of 2^(E s) over those s below n whose bit is set
unfoldable pub power_sum : (ℕ → ℕ) → (ℕ → Bool) → ℕ → ℕ
power_sum E q zero = 0
power_sum E q (suc n) = bit_value (q n) * 2 ^ E n + power_sum E q n

-- no two exponents below n are equal
abbrev pub Distinct : (ℕ → ℕ) → ℕ → Type 0
Distinct E n = (s u : ℕ) → s < u → u < n → E s ≡ E u → ⊥

-- the string of ones
abbrev pub every_bit : ℕ → Bool
every_bit s = true

bit_value-le : (β : Bool) → bit_value β ≤ 1
bit_value-le true = omega arith
bit_value-le false = omega arith

pub power_sum-agree : (E : ℕ → ℕ) (n : ℕ) (p q : ℕ → Bool) → Agree n p q → power_sum E p n ≡ power_sum E q n
unfolding power_sum
power_sum-agree E zero p q a = refl
power_sum-agree E (suc n) p q a = cc (a n (omega arith), power_sum-agree E n p q (λ s l. a s (omega arith)))

-- one bit more
pub power_sum-with_bit : (E : ℕ → ℕ) (q : ℕ → Bool) (n s : ℕ) → s < n → q s ≡ false
    → power_sum E (with_bit q s true) n ≡ 2 ^ E s + power_sum E q n
unfolding power_sum
power_sum-with_bit E q zero s h e = absurd (omega arith)
power_sum-with_bit E q (suc n) s h e = go (eq-or-ne s n) (power_sum-with_bit E q n s)
  where
    sum : ℕ → Bool → ℕ
    sum x β = bit_value β * 2 ^ E n + x

    go : (s ≡ n) ⊎ (s ≡ n → ⊥) → (s < n → q s ≡ false → power_sum E (with_bit q s true) n ≡ 2 ^ E s + power_sum E q n)
        → sum (power_sum E (with_bit q s true) n) (with_bit q s true n) ≡ 2 ^ E s + sum (power_sum E q n) (q n)
    go (inl d) ih =
        let here : with_bit q s true n ≡ true = ap (with_bit q s true) (sym d) ∙ with_bit-same q s true in
        let gone : q n ≡ false = ap q (sym d) ∙ e in
        let below = power_sum-agree E n (with_bit q s true) q
        (agree-le n s (with_bit q s true) q (omega arith) (agree-with_bit q s true)) in
        rw (here, gone) (omega (arith, below, ap (λ x. 2 ^ E x) d))
    go (inr ne) ih =
        rw (with_bit-other q s true n (λ d. ne (sym d))) (omega (arith, ih (omega arith) e))

-- no bit
pub power_sum-none : (E : ℕ → ℕ) (q : ℕ → Bool) (n : ℕ) → Agree n q (λ s. false) → power_sum E q n ≡ 0
unfolding power_sum
power_sum-none E q zero a = refl
power_sum-none E q (suc n) a = rw (a n (omega arith)) (omega (arith, power_sum-none E q n (λ s l. a s (omega arith))))

-- the first x bits apart
pub power_sum-split : (E : ℕ → ℕ) (q : ℕ → Bool) (x n : ℕ)
    → power_sum E q (x + n) ≡ power_sum (λ s. E (x + s)) (λ s. q (x + s)) n + power_sum E q x
unfolding power_sum
power_sum-split E q x zero = let e : x + 0 ≡ x = omega arith in ap (power_sum E q) e ∙ omega arith
power_sum-split E q x (suc n) =
    let e : x + suc n ≡ suc (x + n) = omega arith in
    ap (power_sum E q) e ∙ omega (arith, power_sum-split E q x n)

-- a further exponent is no bit of the sum
bit-power_sum : (E : ℕ → ℕ) (q : ℕ → Bool) (n e : ℕ) → Distinct E n → ((s : ℕ) → s < n → e ≡ E s → ⊥)
    → power_sum E q n / 2 ^ e % 2 ≡ 0
unfolding power_sum
bit-power_sum E q zero e d ne = ap (λ x. x % 2) (zero-div (2 ^ e))
bit-power_sum E q (suc n) e d ne =
    let before : Distinct E n = λ s u l h. d s u l (omega arith) in
    bit-other (E n) e (power_sum E q n) (bit_value (q n))
    (bit-power_sum E q n (E n) before (λ s l x. d s n l (omega arith) (sym x))) (ne n (omega arith)) (bit_value-le (q n))
    ∙ bit-power_sum E q n e before (λ s l. ne s (omega arith))

module _ (E : ℕ → ℕ) where
  -- the next exponent is new
  fresh : (q : ℕ → Bool) (n : ℕ) → Distinct E (suc n) → power_sum E q n / 2 ^ E n % 2 ≡ 0
  fresh q n d = bit-power_sum E q n (E n) (λ s u l h. d s u l (omega arith)) (λ s l x. d s n l (omega arith) (sym x))

  pub among-power_sum : (q : ℕ → Bool) (n : ℕ) → Distinct E n → Among (power_sum E q n) (power_sum E every_bit n)
  unfolding power_sum
  among-power_sum q zero d = and_zero_r 0
  among-power_sum q (suc n) d =
      and-bit (E n) (power_sum E q n) (power_sum E every_bit n) (bit_value (q n)) (fresh q n d) (fresh every_bit n d)
      (bit_value-le (q n))
      ∙ ap (λ x. bit_value (q n) * 2 ^ E n + x) (among-power_sum q n (λ s u l h. d s u l (omega arith)))

  pub power_sum-of-among : (n : ℕ) → Distinct E n → (v : ℕ) → Among v (power_sum E every_bit n)
      → (q : ℕ → Bool) × (power_sum E q n ≡ v)
  unfolding power_sum
  power_sum-of-among zero d v a = (every_bit, sym (and_zero_r v) ∙ a)
  power_sum-of-among (suc n) d v a =
      let r = bit-apart (E n) v in
      let parts = and-bit (E n) r.rest (power_sum E every_bit n) r.bit r.none (fresh every_bit n d) r.le in
      let same : bit_and (r.bit * 2 ^ E n + r.rest) (1 * 2 ^ E n + power_sum E every_bit n) ≡ v =
      ap (λ x. bit_and x (1 * 2 ^ E n + power_sum E every_bit n)) r.sum ∙ a in
      let rest : Among r.rest (power_sum E every_bit n) = omega (arith, parts, same, r.sum) in
      let ih = power_sum-of-among n (λ s u l h. d s u l (omega arith)) r.rest rest in
      let β = eqb r.bit 1 in
      let digit : bit_value β ≡ r.bit = bit_value-digit r.bit (omega (arith, r.le)) in
      let q = with_bit ih.0 n β in
      let here : bit_value (q n) ≡ r.bit = ap bit_value (with_bit-same ih.0 n β) ∙ digit in
      let below = power_sum-agree E n q ih.0 (agree-with_bit ih.0 n β) in
      (q, ap (λ x. x * 2 ^ E n + power_sum E q n) here ∙ omega (arith, below, ih.1, r.sum))

-- Laws of two's complement: differences of numbers; the integer of a number, and bounds; the number of an integer; a
-- number of k bits to which 2^(w-1) is added. Assumes nothing.
use Prim.Native.Nat.{ℕ, zero, suc, ◌+◌, ◌-◌, ◌%◌, ◌^◌, ◌≤◌, ◌<◌}
use mathlib.Core.Path.{◌≡◌, refl, sym, ap, ◌∙◌}
use mathlib.Core.Logic.{◌⊎◌, inl, inr}
use mathlib.Core.Bool.{true, false, and-true}
use native.Mathlib.Omega.{arith}
use native.Mathlib.Nat.{mod-eq_of_lt, mod-eq-sub-mod}
use lib.Dec.{ltb, leb}
use lib.IntN.{ℤ, pos, negsuc, neg_ℤ, ◌-ℤ◌, +ℤ_idl}
use lib.Pow.{pow_mono, pow_pos, le_ones, lt_of_le_ones}
use lib.Signed.{le_z, mag}
use borrow.Author.Tests.{ltb-true, lt-ltb, le-ltb, le-leb, lt-leb}
use Rattle.lists.proofs.Bools.{leb-iff}
use Rattle.lists.proofs.Numbers.{lt-or-le}
use Rattle.shape.specs.Integers.{integer_of, is_signed, is_unsigned}

-- ---- differences of numbers

minus-lt : (a b : ℕ) → a < b → pos a -ℤ pos b ≡ negsuc (b - suc a)
minus-lt a zero l = absurd (omega arith)
minus-lt a (suc b) l = rw (lt-ltb a (suc b) l)

minus-le : (a b : ℕ) → b ≤ a → pos a -ℤ pos b ≡ pos (a - b)
minus-le a zero l = let e : a + 0 ≡ a - 0 = omega arith in ap pos e
minus-le a (suc b) l = rw (le-ltb a (suc b) l)

negℤ-pos : (h : ℕ) → 1 ≤ h → neg_ℤ (pos h) ≡ negsuc (h - 1)
negℤ-pos h l = sym (+ℤ_idl (neg_ℤ (pos h))) ∙ minus-lt 0 h l

pub le_z-minus : (h a b : ℕ) → le_z (pos a -ℤ pos h) (pos b -ℤ pos h) ≡ leb a b
le_z-minus h a b = go (lt-or-le a h) (lt-or-le b h)
  where
    go : (a < h) ⊎ (h ≤ a) → (b < h) ⊎ (h ≤ b) → le_z (pos a -ℤ pos h) (pos b -ℤ pos h) ≡ leb a b
    go (inl l) (inl m) =
        rw (minus-lt a h l, minus-lt b h m)
        (leb-iff (h - suc b) (h - suc a) a b (λ k. omega arith) (λ k. omega arith))
    go (inl l) (inr m) = rw (minus-lt a h l, minus-le b h m) (sym (le-leb a b (omega arith)))
    go (inr l) (inl m) = rw (minus-le a h l, minus-lt b h m) (sym (lt-leb a b (omega arith)))
    go (inr l) (inr m) =
        rw (minus-le a h l, minus-le b h m) (leb-iff (a - h) (b - h) a b (λ k. omega arith) (λ k. omega arith))

-- ---- the integer of a number

half : (k : ℕ) → 1 ≤ k → 2 ^ (k - 1) + 2 ^ (k - 1) ≡ 2 ^ k
half zero o = absurd (omega arith)
half (suc k) o = let e : suc k - 1 ≡ k = omega arith in rw e (omega arith)

module _ (k v : ℕ) where
  pub integer_of-small : v < 2 ^ (k - 1) → integer_of k v ≡ pos v
  unfolding integer_of
  integer_of-small l = rw (lt-ltb v (2 ^ (k - 1)) l)

  pub integer_of-large : 2 ^ (k - 1) ≤ v → v < 2 ^ k → integer_of k v ≡ negsuc (2 ^ k - suc v)
  unfolding integer_of
  integer_of-large g l = rw (le-ltb v (2 ^ (k - 1)) g) (minus-lt v (2 ^ k) l)

leb-ones : (n k : ℕ) → leb n (2 ^ k - 1) ≡ ltb n (2 ^ k)
leb-ones n k = leb-iff n (2 ^ k - 1) (suc n) (2 ^ k) (lt_of_le_ones k) (le_ones k)

-- `mag` is n both of n and of -(n + 1)
is_signed-mag : (w : ℕ) (z : ℤ) → is_signed w z ≡ ltb (mag z) (2 ^ (w - 1))
unfolding is_signed
is_signed-mag w (pos n) = rw (negℤ-pos (2 ^ (w - 1)) (pow_pos (w - 1))) (leb-ones n (w - 1))
is_signed-mag w (negsuc n) = rw (negℤ-pos (2 ^ (w - 1)) (pow_pos (w - 1)), and-true) (leb-ones n (w - 1))

pub is_unsigned-pos : (w n : ℕ) → is_unsigned w (pos n) ≡ ltb n (2 ^ w)
unfolding is_unsigned
is_unsigned-pos w n = rw (le-leb 0 n (omega arith)) (leb-ones n w)

pub is_unsigned-negsuc : (w n : ℕ) → is_unsigned w (negsuc n) ≡ false
unfolding is_unsigned
is_unsigned-negsuc w n = refl

-- ---- the number of an integer

abbrev number_of : ℕ → ℤ → ℕ
number_of k (pos n) = n
number_of k (negsuc n) = 2 ^ k - suc n

number_of-integer_of : (k v : ℕ) → v < 2 ^ k → number_of k (integer_of k v) ≡ v
number_of-integer_of k v l = go (lt-or-le v (2 ^ (k - 1)))
  where
    go : (v < 2 ^ (k - 1)) ⊎ (2 ^ (k - 1) ≤ v) → number_of k (integer_of k v) ≡ v
    go (inl g) = rw (integer_of-small k v g)
    go (inr g) = rw (integer_of-large k v g l) (omega arith)

module _ (k : ℕ) (o : 1 ≤ k) where
  integer_of-number_of : (z : ℤ) → mag z < 2 ^ (k - 1) → (number_of k z < 2 ^ k) × (integer_of k (number_of k z) ≡ z)
  integer_of-number_of (pos n) l = (omega (arith, half k o), integer_of-small k n l)
  integer_of-number_of (negsuc n) l =
      let below : 2 ^ k - suc n < 2 ^ k = omega (arith, pow_pos k) in
      let e : 2 ^ k - suc (2 ^ k - suc n) ≡ n = omega (arith, half k o) in
      (below, integer_of-large k (2 ^ k - suc n) (omega (arith, half k o)) below ∙ ap negsuc e)

  pub one_number : (z : ℤ) → is_signed k z ≡ true
      → (v : ℕ) × (v < 2 ^ k) × (integer_of k v ≡ z) × ((u : ℕ) → u < 2 ^ k → integer_of k u ≡ z → u ≡ v)
  one_number z b =
      let back = integer_of-number_of z (ltb-true (mag z) (2 ^ (k - 1)) (sym (is_signed-mag k z) ∙ b)) in
      (number_of k z, back.0, back.1, λ u l e. sym (number_of-integer_of k u l) ∙ ap (number_of k) e)

-- ---- a number of k bits to which 2^(w-1) is added

module _ (k w v : ℕ) (o : 1 ≤ w) (wide : w ≤ k) (l : v < 2 ^ k) where
  abbrev h : ℕ
  h = 2 ^ (w - 1)

  -- for `omega`
  halves : (h + h ≡ 2 ^ w) × (2 ^ (k - 1) + 2 ^ (k - 1) ≡ 2 ^ k) × (h ≤ 2 ^ (k - 1))
  halves = (half w o, half k (omega arith), pow_mono (omega arith))

  sum-le : 2 ^ k ≤ v + h → (v + h) % 2 ^ k ≡ v + h - 2 ^ k
  sum-le m = mod-eq-sub-mod m ∙ mod-eq_of_lt (omega (arith, halves))

  pub sum_fits : ltb ((v + h) % 2 ^ k) (2 ^ w) ≡ is_signed w (integer_of k v)
  sum_fits = go (lt-or-le v (2 ^ (k - 1))) (lt-or-le (v + h) (2 ^ k))
    where
      go : (v < 2 ^ (k - 1)) ⊎ (2 ^ (k - 1) ≤ v) → (v + h < 2 ^ k) ⊎ (2 ^ k ≤ v + h)
          → ltb ((v + h) % 2 ^ k) (2 ^ w) ≡ is_signed w (integer_of k v)
      go (inl g) (inl m) =
          rw (mod-eq_of_lt m, integer_of-small k v g, is_signed-mag w (pos v))
          (leb-iff (suc (v + h)) (2 ^ w) (suc v) h (λ a. omega (arith, halves)) (λ a. omega (arith, halves)))
      go (inl g) (inr m) = absurd (omega (arith, halves))
      go (inr g) (inl m) =
          rw (mod-eq_of_lt m, integer_of-large k v g l, is_signed-mag w (negsuc (2 ^ k - suc v)))
          (leb-iff (suc (v + h)) (2 ^ w) (suc (2 ^ k - suc v)) h (λ a. omega (arith, halves))
          (λ a. omega (arith, halves)))
      go (inr g) (inr m) =
          rw (sum-le m, integer_of-large k v g l, is_signed-mag w (negsuc (2 ^ k - suc v)))
          (leb-iff (suc (v + h - 2 ^ k)) (2 ^ w) (suc (2 ^ k - suc v)) h (λ a. omega (arith, halves))
          (λ a. omega (arith, halves)))

  pub sum-integer : (v + h) % 2 ^ k < 2 ^ w → integer_of k v ≡ pos ((v + h) % 2 ^ k) -ℤ pos h
  sum-integer b = go (lt-or-le v (2 ^ (k - 1))) (lt-or-le (v + h) (2 ^ k))
    where
      go : (v < 2 ^ (k - 1)) ⊎ (2 ^ (k - 1) ≤ v) → (v + h < 2 ^ k) ⊎ (2 ^ k ≤ v + h)
          → integer_of k v ≡ pos ((v + h) % 2 ^ k) -ℤ pos h
      go (inl g) (inl m) =
          let e : v ≡ v + h - h = omega arith in
          rw (mod-eq_of_lt m, integer_of-small k v g, minus-le (v + h) h (omega arith)) (ap pos e)
      go (inl g) (inr m) = absurd (omega (arith, halves))
      go (inr g) (inl m) = absurd (omega (arith, halves, mod-eq_of_lt m))
      go (inr g) (inr m) =
          let e : 2 ^ k - suc v ≡ h - suc (v + h - 2 ^ k) = omega arith in
          rw (sum-le m, integer_of-large k v g l, minus-lt (v + h - 2 ^ k) h (omega arith)) (ap negsuc e)

-- Laws of the step that creates an index, by the index's highest bit, and of the latest of the four. Assumes nothing.
use Prim.Native.Nat.{ℕ, zero, suc, ◌^◌, ◌≤◌, ◌<◌}
use mathlib.Core.Path.{◌≡◌, sym, subst}
use mathlib.Core.Bool.{cond}
use mathlib.Core.List.{List}
use mathlib.Core.Logic.{◌⊎◌, inl, inr}
use native.Mathlib.Omega.{arith}
use lib.Dec.{leb}
use lib.ListN.{get_or}
use lib.Pow.{pow_mono}
use borrow.Author.Tests.{le-leb, lt-leb, ne_eqb}
use Rattle.lists.proofs.Numbers.{lt-or-le, eq-or-ne, pow_below}
use Rattle.split.specs.Steps.{step_number}
use Rattle.address.specs.Address.{highest_bit, created_by, latest_step}

-- ---- the highest power of two in an index

pub highest_bit-is : (n s i : ℕ) → s < n → 2 ^ s ≤ i → i < 2 ^ suc s → highest_bit n i ≡ s
unfolding highest_bit
highest_bit-is zero s i h l u = absurd (omega arith)
highest_bit-is (suc n) s i h l u = go (lt-or-le s n) (λ a. highest_bit-is n s i a l u)
  where
    go : (s < n) ⊎ (n ≤ s) → (s < n → highest_bit n i ≡ s) → cond (leb (2 ^ n) i) n (highest_bit n i) ≡ s
    go (inl a) ih = rw (lt-leb (2 ^ n) i (omega (arith, pow_mono a))) (ih a)
    go (inr b) ih = let e : n ≡ s = omega arith in rw (le-leb (2 ^ n) i (subst (λ x. 2 ^ x ≤ i) (sym e) l)) e

pub highest_bit-bounds : (n i : ℕ) → 0 < i → i < 2 ^ n → (2 ^ highest_bit n i ≤ i) × (i < 2 ^ suc (highest_bit n i))
unfolding highest_bit
highest_bit-bounds zero i h l = absurd (omega arith)
highest_bit-bounds (suc n) i h l = go (lt-or-le i (2 ^ n)) (highest_bit-bounds n i h)
  where
    go : (i < 2 ^ n) ⊎ (2 ^ n ≤ i) → (i < 2 ^ n → (2 ^ highest_bit n i ≤ i) × (i < 2 ^ suc (highest_bit n i)))
        → (2 ^ cond (leb (2 ^ n) i) n (highest_bit n i) ≤ i) × (i < 2 ^ suc (cond (leb (2 ^ n) i) n (highest_bit n i)))
    go (inl a) ih = rw (lt-leb (2 ^ n) i a) (ih a)
    go (inr b) ih = rw (le-leb (2 ^ n) i b) (b, l)

pub highest_bit-lt : (n i : ℕ) → 0 < n → highest_bit n i < n
unfolding highest_bit
highest_bit-lt zero i h = absurd (omega arith)
highest_bit-lt (suc n) i h = go (lt-or-le i (2 ^ n)) (eq-or-ne n 0) (λ p. highest_bit-lt n i p)
  where
    go : (i < 2 ^ n) ⊎ (2 ^ n ≤ i) → (n ≡ 0) ⊎ (n ≡ 0 → ⊥) → (0 < n → highest_bit n i < n)
        → cond (leb (2 ^ n) i) n (highest_bit n i) < suc n
    go (inr a) d ih = rw (le-leb (2 ^ n) i a) (omega arith)
    go (inl a) (inl z) ih = rw (lt-leb (2 ^ n) i a, z) (omega arith)
    go (inl a) (inr z) ih = rw (lt-leb (2 ^ n) i a) (omega (arith, ih (omega arith)))

-- the highest bit of an index below 2^w is a bit of its attribute
pub highest_bit-below : (w i : ℕ) → 0 < i → i < 2 ^ w → w ≤ 16 → highest_bit 64 i < w
highest_bit-below w i p b f =
    let m : w ≤ 64 = omega arith in
    pow_below (highest_bit 64 i) w i (highest_bit-bounds 64 i p (omega (arith, pow_mono m))).0 b

-- ---- the step that creates an index

pub created_by-is : (ws : List ℕ) (i j k : ℕ) → 0 < i → highest_bit 64 i ≡ k
    → created_by ws j i ≡ suc (step_number ws k j)
unfolding created_by
created_by-is ws i j k p e = let n : i ≡ 0 → ⊥ = λ q. omega arith in rw (ne_eqb i 0 n, e)

-- ---- the latest of the four

pub latest_step-is : (ws is : List ℕ) (t z : ℕ) → z < 4 → ((r : ℕ) → r < 4 → created_by ws r (get_or is r 0) ≤ t)
    → created_by ws z (get_or is z 0) ≡ t → latest_step ws is ≡ t
unfolding latest_step
latest_step-is ws is t z h b e = go z h e
  where
    all : (created_by ws 0 (get_or is 0 0) ≤ t) × (created_by ws 1 (get_or is 1 0) ≤ t)
        × (created_by ws 2 (get_or is 2 0) ≤ t) × (created_by ws 3 (get_or is 3 0) ≤ t)
    all = (b 0 (omega arith), b 1 (omega arith), b 2 (omega arith), b 3 (omega arith))

    go : (z : ℕ) → z < 4 → created_by ws z (get_or is z 0) ≡ t → latest_step ws is ≡ t
    go zero h e = omega (arith, all)
    go (suc zero) h e = omega (arith, all)
    go (suc (suc zero)) h e = omega (arith, all)
    go (suc (suc (suc zero))) h e = omega (arith, all)
    go (suc (suc (suc (suc z)))) h e = absurd (omega arith)

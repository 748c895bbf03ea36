-- Laws of the lowest set bit of a mask: where it is, the mask without it, the record that it picks. Assumes nothing.
use Prim.Native.Nat.{ℕ, zero, suc, ◌+◌, ◌-◌, ◌*◌, ◌/◌, ◌%◌, ◌^◌, ◌≤◌, ◌<◌}
use mathlib.Core.Path.{◌≡◌, refl, sym, ap, ◌∙◌}
use mathlib.Core.Bool.{Bool, true, false, cond}
use mathlib.Core.List.{List, [], ◌∷◌, ◌++◌}
use native.Mathlib.Nat.{pow-suc, mul_assoc, add-zero}
use native.Mathlib.Decide.{dec_lt}
use native.Mathlib.Omega.{arith}
use lib.Bits.{bit_and, and_self, and_block, and_shifted, block_half, block_odd, shifted_half, shifted_even}
use lib.Count.{count_trailing_zeros, under}
use lib.Dec.{eqb}
use lib.ListN.{length}
use lib.Pow.{pow_pos, pow_mono}
use Rattle.page.specs.Fields.{record_field}
use Rattle.page_matches.specs.Mask.{picked}

-- ---- numbers

-- the zeros below the lowest set bit, that bit, and the bits above
trailing-bottom : (w m : ℕ) → 0 < m → m < 2 ^ w
    → (a : ℕ) × (m ≡ a * 2 ^ suc (count_trailing_zeros w m) + 2 ^ count_trailing_zeros w m)
unfolding count_trailing_zeros
trailing-bottom zero m p h = absurd (omega arith)
trailing-bottom (suc w) m p h = go (m % 2) refl (λ q. trailing-bottom w (m / 2) q (omega (arith, pow-suc 2 w)))
  where
    go : (d : ℕ) → m % 2 ≡ d
        → (0 < m / 2 → (a : ℕ) × (m / 2 ≡ a * 2 ^ suc (count_trailing_zeros w (m / 2)) + 2 ^ count_trailing_zeros w (m / 2)))
        → (a : ℕ) × (m ≡ a * 2 ^ suc (under d (count_trailing_zeros w (m / 2))) + 2 ^ under d (count_trailing_zeros w (m / 2)))
    go zero e ih =
        let r = ih (omega arith) in
        let a = r.0 in
        let t = count_trailing_zeros w (m / 2) in
        let twice : a * 2 ^ suc (suc t) ≡ a * 2 ^ suc t * 2 =
        ap (λ x. a * x) (pow-suc 2 (suc t)) ∙ sym (mul_assoc a (2 ^ suc t) 2) in
        (a, omega (arith, r.1, twice, pow-suc 2 t))
    go (suc d) e ih = (m / 2, omega arith)

module _ (a t : ℕ) where
  abbrev masked : ℕ
  masked = a * 2 ^ suc t + 2 ^ t

  and-masked : bit_and masked (masked - 1) ≡ a * 2 ^ suc t
  and-masked =
      let low = pow_pos t in
      let next = pow-suc 2 t in
      let less : masked - 1 ≡ a * 2 ^ suc t + (2 ^ t - 1) = omega arith in
      let one : 2 ^ t ≡ 1 * 2 ^ t = omega arith in
      ap (bit_and masked) less
      ∙ and_block (suc t) a a (2 ^ t) (2 ^ t - 1) (omega arith) (omega arith)
      ∙ (λ i. and_self a i * 2 ^ suc t + bit_and (one i) (2 ^ t - 1))
      ∙ ap (λ x. a * 2 ^ suc t + x) (and_shifted 1 t (2 ^ t - 1) (omega arith))
      ∙ add-zero (a * 2 ^ suc t)

-- ---- the records that a mask picks

module _ (page : List ℕ) where
  pub picked_none : (k i : ℕ) → picked page k i 0 ≡ []
  unfolding picked
  picked_none zero i = refl
  picked_none (suc k) i = picked_none k (suc i)

  pub length-picked-le : (k i mask : ℕ) → length (picked page k i mask) ≤ k
  unfolding picked
  length-picked-le zero i mask = omega arith
  length-picked-le (suc k) i mask = go (eqb (mask % 2) 1) (length-picked-le k (suc i) (mask / 2))
    where
      go : (β : Bool) → length (picked page k (suc i) (mask / 2)) ≤ k
          → length (cond β (record_field page i ∷ []) [] ++ picked page k (suc i) (mask / 2)) ≤ suc k
      go true h = omega arith
      go false h = omega arith

  -- records past the highest bit are not picked
  pub picked_more : (n k i mask : ℕ) → n ≤ k → mask < 2 ^ n → picked page k i mask ≡ picked page n i mask
  unfolding picked
  picked_more zero k i mask l h = let none : mask ≡ 0 = omega arith in ap (picked page k i) none ∙ picked_none k i
  picked_more (suc n) zero i mask l h = absurd (omega arith)
  picked_more (suc n) (suc k) i mask l h =
      ap (λ fs. cond (eqb (mask % 2) 1) (record_field page i ∷ []) [] ++ fs)
      (picked_more n k (suc i) (mask / 2) (omega arith) (omega (arith, pow-suc 2 n)))

  picked-masked : (k t a i : ℕ) → t < k
      → picked page k i (masked a t) ≡ record_field page (i + t) ∷ picked page k i (a * 2 ^ suc t)
  unfolding picked
  picked-masked zero t a i h = absurd (omega arith)
  picked-masked (suc k) zero a i h =
      let odd : masked a 0 % 2 ≡ 1 = omega arith in
      let half : masked a 0 / 2 ≡ a = omega arith in
      let at : i ≡ i + 0 = omega arith in
      (λ j. cond (eqb (odd j) 1) (record_field page (at j) ∷ []) [] ++ picked page k (suc i) (half j))
      ∙ sym (λ j. record_field page (i + 0)
      ∷ (cond (eqb (shifted_even a 0 j) 1) (record_field page i ∷ []) [] ++ picked page k (suc i) (shifted j)))
    where
      shifted : a * 2 ^ 1 / 2 ≡ a
      shifted = omega arith
  picked-masked (suc k) (suc t) a i h =
      let even : masked a (suc t) % 2 ≡ 0 = block_odd a (suc t) (2 ^ suc t) ∙ omega (arith, pow-suc 2 t) in
      let low : 2 ^ suc t / 2 ≡ 2 ^ t = omega (arith, pow-suc 2 t) in
      let half : masked a (suc t) / 2 ≡ masked a t =
      block_half a (suc t) (2 ^ suc t) ∙ ap (λ x. a * 2 ^ suc t + x) low in
      let at : suc i + t ≡ i + suc t = omega arith in
      (λ j. cond (eqb (even j) 1) (record_field page i ∷ []) [] ++ picked page k (suc i) (half j))
      ∙ picked-masked k t a (suc i) (omega arith)
      ∙ sym
      (λ j. record_field page (sym at j)
      ∷ (cond (eqb (shifted_even a (suc t) j) 1) (record_field page i ∷ []) []
      ++ picked page k (suc i) (shifted_half a (suc t) j)))

  -- the lowest bit picks the first of them, and the mask without it the others
  module _ (n mask : ℕ) (fits : mask < 2 ^ 64) (some : 0 < mask) (below : mask < 2 ^ n) where
    abbrev place : ℕ
    place = count_trailing_zeros 64 mask

    bottom : (a : ℕ) × (mask ≡ masked a place)
    bottom = trailing-bottom 64 mask some fits

    pub trailing_lt : place < n
    trailing_lt = go (dec_lt place n)
      where
        go : Dec (place < n) → place < n
        go (yes l) = l
        go (no l) = absurd (omega (arith, pow_mono {i = n} {j = place} (omega arith), bottom.1))

    pub picked_next : picked page n 0 mask ≡ record_field page place ∷ picked page n 0 (bit_and mask (mask - 1))
    picked_next =
        let a = bottom.0 in
        let e = bottom.1 in
        let at : 0 + place ≡ place = omega arith in
        ap (picked page n 0) e
        ∙ picked-masked n place a 0 trailing_lt
        ∙ (λ j. record_field page (at j) ∷ picked page n 0 (sym (and-masked a place) j))
        ∙ ap (λ m. record_field page place ∷ picked page n 0 (bit_and m (m - 1))) (sym e)

-- Laws of the mask of the records that pass a test: its bound and its parts; one record more, below; the records that
-- it picks are those that pass. Assumes nothing.
use Prim.Native.Nat.{ℕ, zero, suc, ◌+◌, ◌-◌, ◌*◌, ◌/◌, ◌%◌, ◌^◌, ◌≤◌, ◌<◌}
use mathlib.Core.Path.{◌≡◌, refl, sym, ap, ◌∙◌}
use mathlib.Core.Bool.{Bool, true, false, cond}
use mathlib.Core.List.{List, [], ◌∷◌, ◌++◌}
use native.Mathlib.Nat.{pow-suc, add-zero, lt_of_lt_of_le}
use native.Mathlib.Omega.{arith}
use mir.Val.{bool_byte}
use lib.Bits.{bit_or, bit_and, and_mask, or_shifted}
use lib.Dec.{eqb}
use lib.ListN.{length}
use lib.Pow.{pow_pos, pow_mono, low, mod-mod-pow}
use Rattle.lists.specs.Filter.{filter}
use Rattle.lists.proofs.Shifts.{one_shifted}
use Rattle.record.specs.Bytes.{record_size}
use Rattle.page.specs.Fields.{record_offset, record_field, fields_from}
use Rattle.page_matches.specs.Output.{hits}
use Rattle.page_matches.specs.Mask.{match_mask, picked, slots_of, picked_by}
use Rattle.page_matches.proofs.BitLaws.{picked_more}

-- ---- bit n

pub one-le-bit : (n : ℕ) → n < 64 → 1 ≤ 1 * 2 ^ n % 2 ^ 64
one-le-bit n h = rw (one_shifted n h) (pow_pos n)

-- ---- the records that pass

module _ (test : List ℕ → Bool) (page : List ℕ) where
  abbrev bit_at : ℕ → ℕ
  bit_at i = cond (test (record_field page i)) 1 0

  bit_at_lt : (i : ℕ) → bit_at i < 2
  bit_at_lt i = go (test (record_field page i))
    where
      go : (β : Bool) → cond β 1 0 < 2
      go true = omega arith
      go false = omega arith

  -- ---- its bound and its parts

  pub match_mask-lt : (k i : ℕ) → match_mask test page k i < 2 ^ k
  unfolding match_mask
  match_mask-lt zero i = omega arith
  match_mask-lt (suc k) i = omega (arith, bit_at_lt i, match_mask-lt k (suc i), pow-suc 2 k)

  match_mask-add : (n m i : ℕ)
      → match_mask test page (n + m) i ≡ match_mask test page m (i + n) * 2 ^ n + match_mask test page n i
  unfolding match_mask
  match_mask-add zero m i =
      let all : 0 + m ≡ m = omega arith in
      let one : match_mask test page m i * 2 ^ 0 + 0 ≡ match_mask test page m i = omega arith in
      ap (λ k. match_mask test page k i) all
      ∙ sym one
      ∙ ap (λ j. match_mask test page m j * 2 ^ 0 + 0) (sym (add-zero i))
  match_mask-add (suc n) m i =
      let k : suc n + m ≡ suc (n + m) = omega arith in
      let j : suc i + n ≡ i + suc n = omega arith in
      let high = match_mask test page m (i + suc n) in
      let rest = match_mask test page n (suc i) in
      let times : high * 2 ^ suc n ≡ 2 * (high * 2 ^ n) = ap (λ x. high * x) (pow-suc 2 n) ∙ omega arith in
      ap (λ k. match_mask test page k i) k
      ∙ ap (λ x. bit_at i + 2 * x)
      (match_mask-add n m (suc i) ∙ ap (λ j. match_mask test page m j * 2 ^ n + rest) j)
      ∙ omega (arith, times)

  -- the first n records of k
  pub match_mask-cut : (n k mask : ℕ) → n < 64 → n ≤ k → mask ≡ match_mask test page k 0 % 2 ^ 64
      → bit_and mask (1 * 2 ^ n % 2 ^ 64 - 1) ≡ match_mask test page n 0
  match_mask-cut n k mask l h e =
      let whole : n + (k - n) ≡ k = omega arith in
      let bits : (64 - n) + n ≡ 64 = omega arith in
      let m = match_mask test page k 0 in
      (λ i. bit_and (e i) (one_shifted n l i - 1))
      ∙ and_mask (m % 2 ^ 64) n
      ∙ ap (λ w. m % 2 ^ w % 2 ^ n) (sym bits)
      ∙ mod-mod-pow m (64 - n) n
      ∙ ap (λ j. match_mask test page j 0 % 2 ^ n) (sym whole)
      ∙ ap (λ x. x % 2 ^ n) (match_mask-add n (k - n) 0)
      ∙ low (match_mask test page (k - n) (0 + n)) n (match_mask-lt n 0)

  -- ---- one record more, below

  -- the test of a record as a bit
  bit_at-test : (i : ℕ) (β : Bool) → β ≡ test (record_field page i) → bool_byte β ≡ bit_at i
  bit_at-test i β e = ap bool_byte e ∙ go (test (record_field page i))
    where
      go : (β : Bool) → bool_byte β ≡ cond β 1 0
      go true = refl
      go false = refl

  pub match_mask-below : (s i mask : ℕ) (β : Bool) → 0 < i → i ≤ s → mask ≡ match_mask test page (s - i) i % 2 ^ 64
      → β ≡ test (record_field page (i - 1))
      → bit_or (mask * 2 % 2 ^ 64) (bool_byte β) ≡ match_mask test page (s - (i - 1)) (i - 1) % 2 ^ 64
  unfolding match_mask
  match_mask-below s i mask β l h e f =
      let k : s - (i - 1) ≡ suc (s - i) = omega arith in
      let j : suc (i - 1) ≡ i = omega arith in
      let rest = match_mask test page (s - i) i in
      let half = rest % 2 ^ 63 in
      let even : mask * 2 % 2 ^ 64 ≡ half * 2 ^ 1 = omega arith in
      let bit = bit_at (i - 1) in
      let b = bit_at_lt (i - 1) in
      ap (bit_or (mask * 2 % 2 ^ 64)) (bit_at-test (i - 1) β f)
      ∙ ap (λ x. bit_or x bit) even
      ∙ or_shifted half 1 bit b
      ∙ omega arith
      ∙ ap (λ j. (bit + 2 * match_mask test page (s - i) j) % 2 ^ 64) (sym j)
      ∙ ap (λ k. match_mask test page k (i - 1) % 2 ^ 64) (sym k)

  -- ---- the records that it picks

  picked-match_mask : (k i : ℕ)
      → picked page k i (match_mask test page k i) ≡ filter test (fields_from k (record_offset i) page)
  unfolding picked match_mask
  picked-match_mask zero i = refl
  picked-match_mask (suc k) i =
      let rest = match_mask test page k (suc i) in
      let b = bit_at_lt i in
      let bit : (bit_at i + 2 * rest) % 2 ≡ bit_at i = omega arith in
      let half : (bit_at i + 2 * rest) / 2 ≡ rest = omega arith in
      let next : record_offset (suc i) ≡ record_offset i + record_size = omega arith in
      let here : Bool → List (List ℕ) = λ β. cond β (record_field page i ∷ []) [] in
      (λ j. here (eqb (bit j) 1) ++ picked page k (suc i) (half j))
      ∙ ap (λ β. here β ++ picked page k (suc i) rest) (go (test (record_field page i)))
      ∙ ap (λ l. here (test (record_field page i)) ++ l) (picked-match_mask k (suc i))
      ∙ ap (λ o. here (test (record_field page i)) ++ filter test (fields_from k o page)) next
    where
      go : (β : Bool) → eqb (cond β 1 0) 1 ≡ β
      go true = refl
      go false = refl

  -- where each of k records passes, they are all of them
  filter-full : (k i : ℕ) → match_mask test page k i + 1 ≡ 2 ^ k
      → filter test (fields_from k (record_offset i) page) ≡ fields_from k (record_offset i) page
  unfolding match_mask
  filter-full zero i e = refl
  filter-full (suc k) i e =
      let rest = match_mask test page k (suc i) in
      let b = bit_at_lt i in
      let full : rest + 1 ≡ 2 ^ k = omega (arith, e, pow-suc 2 k) in
      let one : bit_at i ≡ 1 = omega (arith, e, pow-suc 2 k) in
      let next : record_offset (suc i) ≡ record_offset i + record_size = omega arith in
      let here = record_field page i in
      ap (λ β. cond β (here ∷ []) [] ++ filter test (fields_from k (record_offset i + record_size) page))
      (go (test here) one)
      ∙ ap (λ o. here ∷ filter test (fields_from k o page)) (sym next)
      ∙ ap (λ l. here ∷ l) (filter-full k (suc i) full)
      ∙ ap (λ o. here ∷ fields_from k o page) next
    where
      go : (β : Bool) → ◌≡◌ {A = ℕ} (cond β 1 0) 1 → β ≡ true
      go true d = refl
      go false d = absurd (omega arith)

  -- the n records of a page, by their own mask
  module _ (n : ℕ) (h : record_offset n ≤ length page) where
    pub match_mask-lt-slots : match_mask test page n 0 < 2 ^ slots_of page
    match_mask-lt-slots =
        lt_of_lt_of_le (match_mask-lt n 0) (pow_mono {i = n} {j = slots_of page} (omega arith))

    pub picked_by-match_mask : picked_by (match_mask test page n 0) page ≡ hits test n page
    unfolding hits
    picked_by-match_mask =
        picked_more page n (slots_of page) 0 (match_mask test page n 0) (omega arith) (match_mask-lt n 0)
        ∙ picked-match_mask n 0

    pub hits-full : match_mask test page n 0 ≡ 2 ^ n - 1 → hits test n page ≡ fields_from n 2 page
    unfolding hits
    hits-full e = filter-full n 0 (omega (arith, e, pow_pos n))

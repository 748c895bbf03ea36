-- Laws of numbers in decimal: the fewest digits, the last digit behind the others, how many there are. Assumes nothing.
use Prim.Native.Nat.{ℕ, zero, suc, ◌+◌, ◌-◌, ◌/◌, ◌%◌, ◌^◌, ◌≤◌, ◌<◌}
use mathlib.Core.Path.{◌≡◌, refl, sym, ap, ◌∙◌, subst}
use mathlib.Core.List.{[], ◌∷◌, ◌++◌}
use mathlib.Core.Logic.{◌⊎◌, inl, inr}
use native.Mathlib.Omega.{arith}
use native.Mathlib.Nat.{pow-succ'}
use lib.ListN.{length, length-append}
use borrow.Author.Tests.{lt-ltb, le-ltb}
use Rattle.lists.proofs.Numbers.{lt-or-le}
use Rattle.stock_text.specs.Text.{digits, places_from, places, decimal, Fewest}

-- ---- places by case

places_from-one : (f n : ℕ) → n < 10 → places_from f n ≡ 1
places_from-one zero n h = refl
places_from-one (suc f) n h = rw (lt-ltb n 10 h)

places_from-more : (f n : ℕ) → 10 ≤ n → places_from (suc f) n ≡ suc (places_from f (n / 10))
places_from-more f n h = rw (le-ltb n 10 h)

tenth-lt : (k n : ℕ) → n < 10 ^ suc k → n / 10 < 10 ^ k
tenth-lt k n h = omega (arith, pow-succ' 10 k)

-- looking for more digits than there are finds no more
places_from-suc : (f n : ℕ) → n < 10 ^ suc f → places_from (suc f) n ≡ places_from f n
places_from-suc zero n h = places_from-one 1 n (omega arith)
places_from-suc (suc f) n h = go (lt-or-le n 10) (places_from-suc f (n / 10) (tenth-lt (suc f) n h))
  where
    go : (n < 10) ⊎ (10 ≤ n) → places_from (suc f) (n / 10) ≡ places_from f (n / 10)
        → places_from (suc (suc f)) n ≡ places_from (suc f) n
    go (inl l) e = places_from-one (suc (suc f)) n l ∙ sym (places_from-one (suc f) n l)
    go (inr l) e = places_from-more (suc f) n l ∙ ap suc e ∙ sym (places_from-more f n l)

-- ---- the fewest digits

places_from-le : (f k n : ℕ) → n < 10 ^ suc k → places_from f n ≤ suc k
places_from-le zero k n h = omega arith
places_from-le (suc f) zero n h = rw (places_from-one (suc f) n (omega arith)) (omega arith)
places_from-le (suc f) (suc k) n h = go (lt-or-le n 10) (places_from-le f k (n / 10) (tenth-lt (suc k) n h))
  where
    go : (n < 10) ⊎ (10 ≤ n) → places_from f (n / 10) ≤ suc k → places_from (suc f) n ≤ suc (suc k)
    go (inl l) i = rw (places_from-one (suc f) n l) (omega arith)
    go (inr l) i = rw (places_from-more f n l) (omega arith)

ten-le : (n k : ℕ) → 10 ≤ n → Fewest (n / 10) k → 10 ^ k ≤ n
ten-le n zero h e = absurd (omega (arith, e.0))
ten-le n (suc zero) h e = omega arith
ten-le n (suc (suc k)) h e =
    let one_less : suc (suc k) - 1 ≡ suc k = omega arith in
    let low : 10 ^ suc k ≤ n / 10 = subst (λ m. 10 ^ m ≤ n / 10) one_less (e.2 (omega arith)) in
    omega (arith, low, pow-succ' 10 (suc k))

-- one digit more than the tenth has
fewest-suc : (n k : ℕ) → 10 ≤ n → Fewest (n / 10) k → Fewest n (suc k)
fewest-suc n k h e =
    let one_less : suc k - 1 ≡ k = omega arith in
    (omega arith, omega (arith, e.1, pow-succ' 10 k), λ l. rw one_less (ten-le n k h e))

places_from-fewest : (f n : ℕ) → n < 10 ^ suc f → Fewest n (places_from f n)
places_from-fewest zero n h = (omega arith, h, λ l. absurd (omega arith))
places_from-fewest (suc f) n h = go (lt-or-le n 10) (places_from-fewest f (n / 10) (tenth-lt (suc f) n h))
  where
    go : (n < 10) ⊎ (10 ≤ n) → Fewest (n / 10) (places_from f (n / 10)) → Fewest n (places_from (suc f) n)
    go (inl l) i = rw (places_from-one (suc f) n l) (omega arith, omega arith, λ g. absurd (omega arith))
    go (inr l) i = rw (places_from-more f n l) (fewest-suc n (places_from f (n / 10)) l i)

-- no leading zero, and no digit lost
pub places-fewest : (n : ℕ) → n < 2 ^ 64 → Fewest n (places n)
unfolding places
places-fewest n h = places_from-fewest 20 n (omega arith)

-- ---- the text

length_digits : (k n : ℕ) → length (digits k n) ≡ k
length_digits zero n = refl
length_digits (suc k) n =
    let last = (48 + n % 10) ∷ [] in
    omega (arith, length-append (digits k (n / 10)) last, length_digits k (n / 10))

pub length-decimal : (n : ℕ) → length (decimal n) ≡ places n
unfolding decimal
length-decimal n = length_digits (places n) n

-- a number of at most k + 1 digits: 2^16 is below 10^5, 2^32 below 10^10, 2^64 below 10^20
pub length-decimal-le : (k n : ℕ) → n < 10 ^ suc k → length (decimal n) ≤ suc k
unfolding places
length-decimal-le k n h = rw (length-decimal n) (places_from-le 20 k n h)

pub decimal-one : (n : ℕ) → n < 10 → decimal n ≡ (48 + n % 10) ∷ []
unfolding decimal places
decimal-one n h = ap (λ k. digits k n) (places_from-one 20 n h)

pub decimal-more : (n : ℕ) → 10 ≤ n → n < 2 ^ 64 → decimal n ≡ decimal (n / 10) ++ ((48 + n % 10) ∷ [])
unfolding decimal places
decimal-more n h l =
    ap (λ k. digits k n)
    (places_from-more 19 n h ∙ ap suc (sym (places_from-suc 19 (n / 10) (omega arith))))

-- Laws of the place of a key in a page: its bounds; one record more, below; the place among fewer records; a place
-- below n. Assumes nothing.
use Prim.Native.Nat.{ℕ, zero, suc, ◌+◌, ◌-◌, ◌≤◌, ◌<◌, min}
use mathlib.Core.Path.{◌≡◌, refl, sym, ap, ◌∙◌}
use mathlib.Core.Bool.{Bool, true, false, cond}
use mathlib.Core.List.{List}
use native.Mathlib.Omega.{arith}
use lib.Dec.{eqb, ltb}
use borrow.Author.Tests.{eq-eqb, ne_eqb, le-ltb, ltb-true, ltb-false}
use Rattle.page.specs.Fields.{key_at}
use Rattle.std.specs.Bool.{then_some}
use Rattle.page_matches.specs.KeyPlace.{key_place, place_below}

-- ---- its bounds

-- among the k records from i on, or behind them
pub key_place-le : (key : ℕ) (page : List ℕ) (k i : ℕ) → key_place key page k i ≤ i + k
unfolding key_place
key_place-le key page zero i = omega arith
key_place-le key page (suc k) i = go (eqb (key_at page i) key) (key_place-le key page k (suc i))
  where
    go : (β : Bool) → key_place key page k (suc i) ≤ suc i + k → cond β i (key_place key page k (suc i)) ≤ i + suc k
    go true ih = omega arith
    go false ih = omega arith

module _ (key : ℕ) (page : List ℕ) where
  le-key_place : (k i : ℕ) → i ≤ key_place key page k i
  unfolding key_place
  le-key_place zero i = omega arith
  le-key_place (suc k) i = go (eqb (key_at page i) key) (le-key_place k (suc i))
    where
      go : (β : Bool) → suc i ≤ key_place key page k (suc i) → i ≤ cond β i (key_place key page k (suc i))
      go true ih = omega arith
      go false ih = omega arith

  -- ---- one record more, below

  key_place-below : (k i : ℕ) → 0 < i → i ≤ k
      → key_place key page (k - (i - 1)) (i - 1)
      ≡ cond (eqb (key_at page (i - 1)) key) (i - 1) (key_place key page (k - i) i)
  unfolding key_place
  key_place-below k i l h =
      let more : k - (i - 1) ≡ suc (k - i) = omega arith in
      let next : suc (i - 1) ≡ i = omega arith in
      ap (λ m. key_place key page m (i - 1)) more
      ∙ ap (λ j. cond (eqb (key_at page (i - 1)) key) (i - 1) (key_place key page (k - i) j)) next

  pub key_place-below-same : (k i found : ℕ) → 0 < i → i ≤ k → found ≡ key_at page (i - 1) → found ≡ key
      → i - 1 ≡ key_place key page (k - (i - 1)) (i - 1)
  key_place-below-same k i found l h e same =
      sym
      (key_place-below k i l h
      ∙ ap (λ β. cond β (i - 1) (key_place key page (k - i) i)) (eq-eqb (key_at page (i - 1)) key (sym e ∙ same)))

  pub key_place-below-other : (k i found : ℕ) → 0 < i → i ≤ k → found ≡ key_at page (i - 1) → (found ≡ key → ⊥)
      → key_place key page (k - i) i ≡ key_place key page (k - (i - 1)) (i - 1)
  key_place-below-other k i found l h e other =
      sym
      (key_place-below k i l h
      ∙ ap (λ β. cond β (i - 1) (key_place key page (k - i) i))
      (ne_eqb (key_at page (i - 1)) key (λ same. other (e ∙ same))))

  -- ---- among fewer records

  key_place-add : (n m i : ℕ) → key_place key page n i ≡ min (key_place key page (n + m) i) (i + n)
  unfolding key_place
  key_place-add zero m i = omega (arith, le-key_place (0 + m) i)
  key_place-add (suc n) m i =
      go (eqb (key_at page i) key) (key_place-add n m (suc i)) ∙ ap (λ k. min (key_place key page k i) (i + suc n)) more
    where
      more : suc (n + m) ≡ suc n + m
      more = omega arith

      go : (β : Bool) → key_place key page n (suc i) ≡ min (key_place key page (n + m) (suc i)) (suc i + n)
          → cond β i (key_place key page n (suc i)) ≡ min (cond β i (key_place key page (n + m) (suc i))) (i + suc n)
      go true ih = omega arith
      go false ih = omega arith

  -- the first n records of k
  pub key_place-cut : (n k place : ℕ) → n ≤ k → place ≡ key_place key page k 0 → key_place key page n 0 ≡ min place n
  key_place-cut n k place h e =
      let whole : n + (k - n) ≡ k = omega arith in
      let all : 0 + n ≡ n = omega arith in
      key_place-add n (k - n) 0
      ∙ (λ j. min (key_place key page (whole j) 0) (all j))
      ∙ ap (λ p. min p n) (sym e)

-- ---- a place below n

pub place_below-cut : (n i place : ℕ) → i ≡ min place n → then_some (ltb place n) place ≡ place_below n i
place_below-cut n i place e = go (ltb place n) refl
  where
    go : (β : Bool) → ltb place n ≡ β → then_some β place ≡ place_below n i
    go true t =
        let same : i ≡ place = omega (arith, e, ltb-true place n t) in
        rw (same, t)
    go false f = rw (le-ltb i n (omega (arith, e, ltb-false place n f)))
